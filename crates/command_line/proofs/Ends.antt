-- What stands before and behind a hyphen.
use Rattle.std.proofs.Common.{◌≡◌, ℕ, Bool, true, false, List, Option, Some, None, Bor, cond, length, ap, arith, sym}
use Rattle.std.specs.Prelude.{nat_lt, ◌==◌}
use Rattle.std.specs.List.{after_first, before_first, position_or_len}
use Rattle.std.specs.Option.{option_map}
use Rattle.std.proofs.lemmas.Bool.Decides.{nat_tests}
use Rattle.std.proofs.lemmas.Str.Pattern.{IsSplitOnceResult, split_once_first}
use Rattle.command_line.specs.Windows.{ends_in}

abbrev place : List ℕ → ℕ
place text = position_or_len (λ b. b == 45) text

abbrev both : List ℕ → List ℕ × List ℕ
both text = (before_first (λ b. b == 45) text, after_first (λ b. b == 45) text)

by_test : (text : List ℕ) (b : Bool) → nat_lt (place text) (length text) ≡ b → ends_in text ≡ cond b (Some (both text)) None
by_test text b e = ap (λ (t : Bool). cond t (Some (both text)) None) e

pub ends_are : (text : List ℕ) (r : Option (Bor (List ℕ) × Bor (List ℕ))) → IsSplitOnceResult 45 text r → option_map (λ x. (x.0.now, x.1.now)) r ≡ ends_in text
ends_are text None h =
    let whole = split_once_first 45 text None h (omega arith) in
    let behind : nat_lt (place text) (length text) ≡ false = grind (arith, nat_tests) in
    sym (by_test text false behind)
ends_are text (Some x) h =
    let (inside, front, back) = split_once_first 45 text (Some x) h (omega arith) in
    let within : nat_lt (place text) (length text) ≡ true = grind (arith, nat_tests) in
    rw (by_test text true within) (let e : (x.0.now, x.1.now) ≡ both text = cc in ap (λ (p : List ℕ × List ℕ). Some p) e)
