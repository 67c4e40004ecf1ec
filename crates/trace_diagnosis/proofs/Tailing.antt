-- One call more of a tail, from its end backwards.
use Rattle.std.proofs.Common.{◌≡◌, ◌∙◌, ◌<◌, ◌+◌, ◌-◌, ℕ, Bool, true, false, List, sym, ap, arith, suc, if◌then◌else◌, cond}
use Rattle.std.specs.Prelude.{count_by}
use Rattle.std.specs.List.{range_with_len}
use Rattle.std.proofs.lemmas.List.Sums.{sum_by-cons}
use Rattle.mpi_model.specs.declared.event.Event.{Event}
use Rattle.trace_diagnosis.specs.Called.{count_of}
use Rattle.trace_diagnosis.specs.Tails.{first_from, is_poll_part, part_in, polls_from}

-- the first of the numbers below one more, where the last may stand
pub first_more : (may : ℕ → Bool) (n : ℕ) → may n ≡ true → first_from may (n + 1) ≡ first_from may n
first_more may n e = ap (first_from may) (next n) ∙ ap (λ (b : Bool). if b then first_from may n else suc n) e
  where
    next : (n : ℕ) → n + 1 ≡ suc n
    next n = omega arith

-- the same where it may not
pub first_here : (may : ℕ → Bool) (n : ℕ) → may n ≡ false → first_from may (n + 1) ≡ n + 1
first_here may n e = ap (first_from may) (next n) ∙ ap (λ (b : Bool). if b then first_from may n else suc n) e ∙ sym (next n)
  where
    next : (n : ℕ) → n + 1 ≡ suc n
    next n = omega arith

counted : (p : ℕ → Bool) (first len more : ℕ) → len ≡ more + 1 → count_by p (range_with_len first len) ≡ count_by p (range_with_len (first + 1) more) + (if p first then 1 else 0)
counted p first len more e =
    ap (λ (n : ℕ). count_by p (range_with_len first n)) (e ∙ next more) ∙ sum_by-cons (λ n. cond (p n) 1 0) first (range_with_len (first + 1) more) ∙ swap (cond (p first) 1 0) (count_by p (range_with_len (first + 1) more))
  where
    next : (n : ℕ) → n + 1 ≡ suc n
    next n = omega arith

    swap : (a b : ℕ) → a + b ≡ b + a
    swap a b = omega arith

-- the polls from one number before
pub polls_more : (events : List Event) (n : ℕ) → n < count_of events → polls_from events n ≡ polls_from events (n + 1) + (if is_poll_part (part_in events n) then 1 else 0)
polls_more events n lt = counted (λ k. is_poll_part (part_in events k)) n (count_of events - n) (count_of events - (n + 1)) (less (count_of events) n lt)
  where
    less : (calls n : ℕ) → n < calls → calls - n ≡ (calls - (n + 1)) + 1
    less calls n lt = omega arith
