-- The first bytes of a file.
use Rattle.std.proofs.Common.{◌≡◌, ◌∙◌, ◌<◌, ◌≤◌, ◌||◌, ◌++◌, ℕ, zero, suc, Bool, true, false, IsTrue, List, Option, Some, None, inl, inr, ap, arith, sym, subst, refl, length, take, append-nil, eq-or-lt_of_le}
use Rattle.std.proofs.Math.Seq.{take-append_seam}
use Rattle.std.proofs.lemmas.List.{take_all}
use Rattle.std.specs.Io.KnownBytes.{Consumes, IsAtEnd}
use Rattle.run_inputs.specs.Files.{StandsAtFirst}
use Rattle.run_inputs.specs.Looks.{BeginsAsText, IsLookAt, any_below, begins_call, has_call}
use Rattle.run_inputs.specs.declared.load.first_look.TheConstants.{LONGEST_LOOK}

-- so many bytes were read
pub looked_full : (left new : Option (List ℕ)) (front : List ℕ) (answer : Bool) → Consumes left new front → length front ≡ LONGEST_LOOK → answer ≡ has_call front → IsLookAt left answer
looked_full None new front answer h len is = tt
looked_full (Some bytes) None front answer h len is = absurd h
looked_full (Some bytes) (Some rest) front answer h len is =
    is ∙ ap has_call (sym (ap (take LONGEST_LOOK) h ∙ ap (λ (n : ℕ). take n (front ++ rest)) (sym len) ∙ take-append_seam front rest))

-- the file has no more
pub looked_short : (left new : Option (List ℕ)) (front : List ℕ) (answer : Bool) → Consumes left new front → IsAtEnd new → length front ≤ LONGEST_LOOK → answer ≡ has_call front → IsLookAt left answer
looked_short None new front answer h end len is = tt
looked_short (Some bytes) None front answer h end len is = absurd h
looked_short (Some bytes) (Some rest) front answer h end len is =
    let all : bytes ≡ front = h ∙ ap (λ (l : List ℕ). front ++ l) end ∙ append-nil front in
    is ∙ ap has_call (sym (ap (take LONGEST_LOOK) all ∙ take_all LONGEST_LOOK front len))

-- what a look at the file tells
pub look_told : (file left : Option (List ℕ)) (answer : Bool) → StandsAtFirst file left → IsLookAt left answer → IsLookAt file answer
look_told None left answer told h = tt
look_told (Some bytes) left answer told h = subst (λ (t : Option (List ℕ)). IsLookAt t answer) told h

pub begins_told : (file left : Option (List ℕ)) (answer : Bool) → StandsAtFirst file left → IsLookAt left answer → IsTrue answer → BeginsAsText file
begins_told file left answer told h holds = subst (λ (b : Bool). IsLookAt file b) holds (look_told file left answer told h)

or_true : (b : Bool) → true ≡ (b || true)
or_true true = refl
or_true false = refl

any_at : (n i : ℕ) (test : ℕ → Bool) → i < n → test i ≡ true → true ≡ any_below n test
any_at zero i test less is = absurd (omega (arith, less))
any_at (suc n) i test less is = let most : i ≤ n = omega (arith, less) in elim (eq-or-lt_of_le most) [
  | inl same ↦ let last : test n ≡ true = subst (λ (k : ℕ). test k ≡ true) same is in or_true (any_below n test) ∙ ap (λ (b : Bool). any_below n test || b) (sym last)
  | inr before ↦ ap (λ (b : Bool). b || test n) (any_at n i test before is)
]

-- a call begins at one of the bytes
pub call_at : (bytes : List ℕ) (i : ℕ) → i < length bytes → begins_call bytes i ≡ true → true ≡ has_call bytes
call_at bytes i less is = any_at (length bytes) i (begins_call bytes) less is
