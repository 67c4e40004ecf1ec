-- The number of a rank in a text.
use Rattle.std.proofs.Common.{◌≡◌, ◌∙◌, ◌<◌, ◌^◌, ℕ, Bool, true, false, List, Some, None, cond, refl, sym, ap, arith}
use Rattle.std.specs.Str.Parse.{IsNumeral, digits_value, without_leading_plus}
use Rattle.clap.specs.ValueTests.{accepts}
use Rattle.clap.specs.Values.{Accepts}
use Rattle.clap.proofs.ValueTestLemmas.{Accepts-accepts, accepts-Accepts}
use Rattle.command_line.specs.Ranks.{rank_in, rank_parser}

abbrev value_of : List ℕ → ℕ
value_of text = digits_value 10 (without_leading_plus text)

by_test : (text : List ℕ) (b : Bool) → accepts false rank_parser text ≡ b → rank_in text ≡ cond b (Some (value_of text)) None
by_test text b e = ap (λ (t : Bool). cond t (Some (value_of text)) None) e

-- a number of 32 bits
pub rank_of : (text : List ℕ) (n : ℕ) → IsNumeral 10 (without_leading_plus text) → digits_value 10 (without_leading_plus text) < 2 ^ 32 → n ≡ digits_value 10 (without_leading_plus text) → rank_in text ≡ Some n
rank_of text n digits small e =
    by_test text true (Accepts-accepts false rank_parser text (digits, omega arith, omega arith, omega arith)) ∙ ap (λ (m : ℕ). Some m) (sym e)

-- any other text
pub no_rank : (text : List ℕ) → (IsNumeral 10 (without_leading_plus text) × (digits_value 10 (without_leading_plus text) < 2 ^ 32) → ⊥) → rank_in text ≡ None
no_rank text absent = none (accepts false rank_parser text) refl
  where
    none : (b : Bool) → accepts false rank_parser text ≡ b → rank_in text ≡ None
    none true e = let h : Accepts false rank_parser text = accepts-Accepts false rank_parser text e in let small : digits_value 10 (without_leading_plus text) < 2 ^ 32 = omega (arith, h.3) in absurd (absent (h.0, small))
    none false e = by_test text false e
