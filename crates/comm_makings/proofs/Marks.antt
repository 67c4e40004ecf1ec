-- Places that are marked one after the other.
use Rattle.std.proofs.Common.{◌≡◌, ℕ, zero, suc, ◌≤◌, ◌<◌, ◌==◌, ◌||◌, Bool, true, false, List, [], ◌∷◌, Some, ◌+◌, length, get_or, drop, set, ap, ◌∙◌, sym, refl, arith, add-one, drop-cons}
use Rattle.std.proofs.lemmas.List.{drop_all}
use Rattle.comm_makings.specs.Makes.{is_covered}
use Rattle.comm_makings.specs.Selection.{Selection}
use Rattle.std.specs.List.{slice_get}
use Rattle.std.proofs.lemmas.Bool.Decides.{nat_tests}
use Rattle.std.proofs.lemmas.Option.{slice_get_within}
use Rattle.comm_groups.specs.Groups.{has}

or_assoc : (x y z : Bool) → ((x || y) || z) ≡ (x || (y || z))
or_assoc true y z = refl
or_assoc false y z = refl

or_false : (x : Bool) → (x || false) ≡ x
or_false true = refl
or_false false = refl

or_true : (x : Bool) → (x || true) ≡ true
or_true true = refl
or_true false = refl

same_zero : (k : ℕ) → (zero == suc k) ≡ false
same_zero k = grind (arith, nat_tests)

same_suc_zero : (p : ℕ) → (suc p == zero) ≡ false
same_suc_zero p = grind (arith, nat_tests)

same_suc : (p k : ℕ) → (suc p == suc k) ≡ (p == k)
same_suc p k = grind (arith, nat_tests)

set_true : (covered : List Bool) (p k : ℕ) (b : Bool) → slice_get (set covered p true) k ≡ Some b
    → (old : Bool) × (slice_get covered k ≡ Some old) × (b ≡ (old || (p == k)))
set_true [] p k b e = absurd (cc)
set_true (c ∷ cs) zero zero b e = (c, refl, let is : b ≡ true = cc in is ∙ sym (or_true c))
set_true (c ∷ cs) zero (suc k) b e = (b, e, sym (ap (λ (t : Bool). b || t) (same_zero k) ∙ or_false b))
set_true (c ∷ cs) (suc p) zero b e = (b, e, sym (ap (λ (t : Bool). b || t) (same_suc_zero p) ∙ or_false b))
set_true (c ∷ cs) (suc p) (suc k) b e =
    let r = set_true cs p k b e in (r.0, r.1, r.2 ∙ ap (λ (t : Bool). r.0 || t) (sym (same_suc p k)))

-- which places are marked behind some of the places
abbrev pub AreMarked : List Bool → List Bool → List ℕ → List ℕ → Type 0
AreMarked covered initial rest places = (k : ℕ) (b : Bool) → slice_get covered k ≡ Some b
    → (a : Bool) × (slice_get initial k ≡ Some a) × ((b || has rest k) ≡ (a || has places k))

pub marked : (covered initial : List Bool) (p : ℕ) (rest places : List ℕ) → AreMarked covered initial (p ∷ rest) places → AreMarked (set covered p true) initial rest places
marked covered initial p rest places are k b e =
    let s = set_true covered p k b e in
    let before = are k s.0 s.1 in
    (before.0, before.1, ap (λ (t : Bool). t || has rest k) s.2 ∙ or_assoc s.0 (p == k) (has rest k) ∙ before.2)

pub unmarked : (covered initial : List Bool) (p : ℕ) (rest places : List ℕ) → length covered ≤ p → AreMarked covered initial (p ∷ rest) places → AreMarked covered initial rest places
unmarked covered initial p rest places past are k b e =
    let within : k < length covered = slice_get_within covered k b e in
    let other : (p == k) ≡ false = grind (arith, nat_tests) in
    let before = are k b e in
    (before.0, before.1, sym (ap (λ (t : Bool). b || (t || has rest k)) other) ∙ before.2)

-- which places are in one of the first communicators
abbrev pub AreCoveredTo : List Bool → List Bool → List Selection → ℕ → Type 0
AreCoveredTo covered initial parts i = (k : ℕ) (b : Bool) → slice_get covered k ≡ Some b
    → (a : Bool) × (slice_get initial k ≡ Some a) × ((b || is_covered (drop i parts) k) ≡ (a || is_covered parts k))

abbrev pub Covers : List Bool → List Bool → List ℕ → Type 0
Covers old new places = (k : ℕ) (b : Bool) → slice_get new k ≡ Some b → (a : Bool) × (slice_get old k ≡ Some a) × (b ≡ (a || has places k))

pub covered_more : (covered new initial : List Bool) (parts : List Selection) (i : ℕ) (p : Selection) → i < length parts → p ≡ get_or parts i p
    → AreCoveredTo covered initial parts i → Covers covered new p.places → AreCoveredTo new initial parts (i + 1)
covered_more covered new initial parts i p below is are covers k b e =
    let s = covers k b e in
    let list : drop i parts ≡ p ∷ drop (i + 1) parts =
    drop-cons parts i p below ∙ ap (λ (n : ℕ). get_or parts i p ∷ drop n parts) (sym (add-one i)) ∙ ap (λ (q : Selection). q ∷ drop (i + 1) parts) (sym is) in
    let before = are k s.0 s.1 in
    let rest : Bool = is_covered (drop (i + 1) parts) k in
    (before.0, before.1, ap (λ (t : Bool). t || rest) s.2 ∙ or_assoc s.0 (has p.places k) rest ∙ ap (λ (l : List Selection). s.0 || is_covered l k) (sym list) ∙ before.2)

-- Where none was marked before, those of the communicators are.
pub covered_all : (covered initial : List Bool) (parts : List Selection) (i : ℕ) → length parts ≤ i → ((k : ℕ) (b : Bool) → slice_get initial k ≡ Some b → b ≡ false)
    → AreCoveredTo covered initial parts i → (k : ℕ) (b : Bool) → slice_get covered k ≡ Some b → b ≡ is_covered parts k
covered_all covered initial parts i past none are k b e =
    let before = are k b e in
    sym (or_false b) ∙ ap (λ (l : List Selection). b || is_covered l k) (sym (drop_all i parts past)) ∙ before.2
    ∙ ap (λ (t : Bool). t || is_covered parts k) (none k before.0 before.1)
