-- How many bytes of a text a device took.
use Rattle.std.proofs.Common.{◌≡◌, ◌<◌, take, ◌+◌, ◌-◌, ◌^◌, ℕ, min, List, length, sym, ◌∙◌, ap, arith}
use Rattle.std.proofs.lemmas.List.{length-take}
use Rattle.trace_report.specs.Page.{capped}

min_min : (a n m l : ℕ) → n < l → min (min (a + n) m) m ≡ min (a + min n l) m
min_min a n m l h = omega (arith, h)

-- the count where a front of the text was written
pub count_part : (a r n : ℕ) (text : List ℕ) → n < length text → r ≡ min (a + n) (2 ^ 64 - 1) → capped r ≡ capped (a + length (take n text))
count_part a r n text h e = ap (λ (k : ℕ). capped k) e ∙ min_min a n (2 ^ 64 - 1) (length text) h ∙ ap (λ (k : ℕ). capped (a + k)) (sym (length-take n text))

min_twice : (n m : ℕ) → min (min n m) m ≡ min n m
min_twice n m = omega arith

-- the count where the whole text was written
pub count_all : (a r : ℕ) (text : List ℕ) → r ≡ min (a + length text) (2 ^ 64 - 1) → capped r ≡ capped (a + length text)
count_all a r text e = ap (λ (k : ℕ). capped k) e ∙ min_twice (a + length text) (2 ^ 64 - 1)
