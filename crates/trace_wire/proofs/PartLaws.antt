-- What is read as parts is spelled so, and what is spelled so is read, whatever follows.
use Rattle.std.proofs.Common.{◌≡◌, ℕ, zero, suc, ◌+◌, ◌^◌, ◌<◌, List, [], ◌∷◌, ◌++◌, length, Option, Some, Ok, refl, ap, subst, ◌∙◌, append_assoc, arith}
use Rattle.std.specs.Prelude.{⊤}
use Rattle.std.specs.List.{flat_map}
use Rattle.std.proofs.lemmas.List.{length-append}
use Rattle.std.proofs.lemmas.List.Concat.{flat_map-cons}
use Rattle.trace_wire.specs.Forms.{IsBytes}
use Rattle.trace_wire.specs.Parts.{◌>=>◌, Part, parts_at}
use Rattle.trace_wire.proofs.FormLaws.{Takes, Takes-then}
use Rattle.trace_wire.proofs.Steps.{bind_ok, ok_is}

-- A part is read and spelled alike behind a place, over the parts that fit there.
pub record IsPart {A : Type 0} (part : Part A) (Fits : Option (ℕ × ℕ) → A → Type 0) : Type 0 where
  pub takes : (before : Option (ℕ × ℕ)) (bytes : List ℕ) (x : A × List ℕ) → IsBytes bytes → part.read before bytes ≡ Ok x → Takes bytes (part.spell x.0) x.1 × Fits before x.0
  pub again : (before : Option (ℕ × ℕ)) (a : A) (rest : List ℕ) → Fits before a → length (part.spell a) < 2 ^ 32 → part.read before (part.spell a ++ rest) ≡ Ok (a, rest)
  pub some : (a : A) → 0 < length (part.spell a)

-- each part fits behind the one before
abbrev pub AllFit : {A : Type 0} → Part A → (Option (ℕ × ℕ) → A → Type 0) → Option (ℕ × ℕ) → List A → Type 0
AllFit part Fits before [] = ⊤
AllFit part Fits before (x ∷ xs) = Fits before x × AllFit part Fits (Some (part.end x)) xs

pub parts_take : {A : Type 0} (part : Part A) (Fits : Option (ℕ × ℕ) → A → Type 0) → IsPart part Fits → (n : ℕ) (before : Option (ℕ × ℕ)) (bytes : List ℕ) (x : List A × List ℕ) → IsBytes bytes → parts_at part n before bytes ≡ Ok x
    → Takes bytes (flat_map part.spell x.0) x.1 × (length x.0 ≡ n) × AllFit part Fits before x.0
unfolding parts_at
parts_take {A} part Fits is zero before bytes x fits e =
    subst (λ (y : List A × List ℕ). Takes bytes (flat_map part.spell y.0) y.1 × (length y.0 ≡ 0) × AllFit part Fits before y.0) (ok_is ([], bytes) x e) (record { parts = refl; rest_fits = fits }, refl, tt)
parts_take {A} part Fits is (suc n) before bytes x fits e =
    let a = bind_ok (part.read before bytes) (λ first. parts_at part n (Some (part.end first.0)) first.1 >=> λ others. Ok (first.0 ∷ others.0, others.1)) x e in
    let b = bind_ok (parts_at part n (Some (part.end a.0.0)) a.0.1) (λ others. Ok (a.0.0 ∷ others.0, others.1)) x a.2 in
    let first = is.takes before bytes a.0 fits a.1 in
    let second = parts_take part Fits is n (Some (part.end a.0.0)) a.0.1 b.0 first.0.rest_fits b.1 in
    let both = Takes-then bytes (part.spell a.0.0) a.0.1 (flat_map part.spell b.0.0) b.0.1 first.0 second.0 in
    let made : List A × List ℕ = (a.0.0 ∷ b.0.0, b.0.1) in
    subst (λ (y : List A × List ℕ). Takes bytes (flat_map part.spell y.0) y.1 × (length y.0 ≡ suc n) × AllFit part Fits before y.0) (ok_is made x b.2) (rw flat_map-cons both, ap suc second.1, (first.1, second.2))

pub parts_again : {A : Type 0} (part : Part A) (Fits : Option (ℕ × ℕ) → A → Type 0) → IsPart part Fits → (before : Option (ℕ × ℕ)) (xs : List A) (rest : List ℕ) → AllFit part Fits before xs → length (flat_map part.spell xs) < 2 ^ 32
    → parts_at part (length xs) before (flat_map part.spell xs ++ rest) ≡ Ok (xs, rest)
unfolding parts_at
parts_again part Fits is before [] rest fits short = refl
parts_again part Fits is before (x ∷ xs) rest fits short =
    let parts : flat_map part.spell (x ∷ xs) ≡ part.spell x ++ flat_map part.spell xs = flat_map-cons part.spell x xs in
    let len : length (flat_map part.spell (x ∷ xs)) ≡ length (part.spell x) + length (flat_map part.spell xs) = ap length parts ∙ length-append (part.spell x) (flat_map part.spell xs) in
    let here : length (part.spell x) < 2 ^ 32 = omega (arith, len, short) in
    let there : length (flat_map part.spell xs) < 2 ^ 32 = omega (arith, len, short) in
    let regrouped : flat_map part.spell (x ∷ xs) ++ rest ≡ part.spell x ++ (flat_map part.spell xs ++ rest) = ap (λ (t : List ℕ). t ++ rest) parts ∙ append_assoc (part.spell x) (flat_map part.spell xs) rest in
    ap (parts_at part (suc (length xs)) before) regrouped ∙ rw (is.again before x (flat_map part.spell xs ++ rest) fits.0 here, parts_again part Fits is (Some (part.end x)) xs rest fits.1 there) refl
