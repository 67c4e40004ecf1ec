-- The table has the mark of each byte, by computing.
use Rattle.std.proofs.Common.{◌≡◌, ℕ, ◌==◌, ◌<◌, Bool, true, false, map, cond, get_or, refl, ap, ◌∙◌, arith}
use Rattle.std.proofs.lemmas.List.FromFn.{get_or-map-range_with_len}
use Rattle.std.specs.List.{range_with_len}
use Rattle.dumpi_text.specs.Words.{is_word_byte}
use Rattle.dumpi_text.specs.declared.words.TheConstants.{NAME_BYTES}
use Rattle.dumpi_text.proofs.words.is_name_byte.Goals as goal

abbrev mark : ℕ → ℕ
mark b = cond (is_word_byte b) 1 0

table_is : NAME_BYTES ≡ map mark (range_with_len 0 256)
table_is = refl

marked : (t : Bool) → (cond t 1 0 == 1) ≡ t
marked true = refl
marked false = refl

read : (b : ℕ) → b < 256 → (get_or NAME_BYTES b 0 == 1) ≡ is_word_byte b
read b h =
    ap (λ (n : ℕ). n == 1) (ap (λ t. get_or t b 0) table_is ∙ get_or-map-range_with_len mark 0 256 b b 0 h (omega arith))
    ∙ marked (is_word_byte b)

pub returns : goal.returns
returns c = rw c.from.ensures (read c.args.byte (omega arith))
