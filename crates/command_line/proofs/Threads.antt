-- The number of threads in a text.
use Rattle.std.proofs.Common.{◌≡◌, ◌∙◌, ◌<◌, ◌≤◌, ◌^◌, ℕ, Bool, true, false, List, Option, Some, None, IfSome, cond, refl, sym, ap, arith}
use Rattle.std.specs.Str.Parse.{IsNumeral, digits_value, without_leading_plus}
use Rattle.clap.specs.ValueTests.{accepts}
use Rattle.clap.specs.Values.{Accepts}
use Rattle.clap.proofs.ValueTestLemmas.{Accepts-accepts, accepts-Accepts}
use Rattle.command_line.specs.Threads.{thread_count, threads_parser}

abbrev value_of : List ℕ → ℕ
value_of text = digits_value 10 (without_leading_plus text)

by_test : (text : List ℕ) (b : Bool) → accepts false threads_parser text ≡ b → thread_count text ≡ cond b (Some (value_of text)) None
by_test text b e = ap (λ (t : Bool). cond t (Some (value_of text)) None) e

-- a text that isn't taken says none
pub no_count : (text : List ℕ) → (IsNumeral 10 (without_leading_plus text) → 1 ≤ value_of text → value_of text ≤ 1024 → ⊥) → thread_count text ≡ None
no_count text absent = none (accepts false threads_parser text) refl
  where
    none : (b : Bool) → accepts false threads_parser text ≡ b → thread_count text ≡ None
    none true e = let h : Accepts false threads_parser text = accepts-Accepts false threads_parser text e in absurd (absent h.0 h.2 h.3)
    none false e = by_test text false e

-- a number of 32 bits says itself, where it is in the range
pub count_of : (text : List ℕ) (n : ℕ) (count : Option ℕ) → IsNumeral 10 (without_leading_plus text) → value_of text < 2 ^ 32 → n ≡ value_of text
    → IfSome count (λ m. (m ≡ n) × (1 ≤ n) × (n ≤ 1024)) → (count ≡ None → (1 ≤ n) × (n ≤ 1024) → ⊥) → count ≡ thread_count text
count_of text n (Some m) digits small e some none =
    let low = some.1 in let high = some.2 in
    ap (λ (k : ℕ). Some k) (some.0 ∙ e)
    ∙ sym (by_test text true (Accepts-accepts false threads_parser text (digits, omega (arith, small), omega (arith, low, e), omega (arith, high, e))))
count_of text n None digits small e some none = sym (no_count text (λ numeral low high. none refl (omega (arith, low, e), omega (arith, high, e))))
