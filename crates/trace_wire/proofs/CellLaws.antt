-- The laws of what stands at a place, and of cells.
use Rattle.std.proofs.Common.{◌≡◌, ℕ, ◌^◌, ◌%◌, ◌<◌, true, false, cond, ltb, List, [], ◌∷◌, ◌++◌, length, Option, Some, Ok, Err, refl, ap, subst, ◌∙◌, append_assoc, arith}
use Rattle.std.specs.Prelude.{⊤}
use Rattle.std.specs.Int.{w32, w64}
use Rattle.std.proofs.lemmas.Bool.{ltb-true, eqb-true}
use Rattle.std.proofs.lemmas.Bool.Decides.{nat_tests}
use Rattle.std.proofs.lemmas.List.{length-append}
use Rattle.mpi_model.specs.declared.event.Event.TheVariants as events
use Rattle.trace_know.specs.declared.cell.Known.{Known}
use Rattle.trace_know.specs.declared.cell.Known.TheVariants as knowns
use Rattle.trace_know.specs.Placed.{IsHalfOf, IsPlaced}
use Rattle.trace_wire.specs.declared.fault.WireFault.TheVariants.{Order, Content}
use Rattle.trace_wire.specs.Forms.{number, IsBytes}
use Rattle.trace_wire.specs.Events.{is_even, event_at}
use Rattle.trace_wire.specs.Fields.{made}
use Rattle.trace_wire.specs.Cells.{Entry, known_bytes, place_form, cell_bytes, is_past, IsInRange}
use Rattle.trace_wire.specs.Parts.{known_by, known_at, ◌>=>◌, or_fault, cell, cell_after, cell_at}
use Rattle.trace_wire.proofs.FormLaws.{IsBytes-rest, Takes, Takes-then, IsForm, wide32, wide64, number_form, pair_form, choose, no_value, some_is, bind_some}
use Rattle.trace_wire.proofs.EventForms.{EventFits, event_form}
use Rattle.trace_wire.proofs.PartLaws.{IsPart}
use Rattle.trace_wire.proofs.Steps.{bind_ok, or_ok, passed}

-- what is known fits a place
abbrev pub KnownFits : ℕ → Known → Type 0
KnownFits place (knowns.One event) = EventFits place event
KnownFits place knowns.Contradiction = ⊤

odd_is : (n : ℕ) → is_even n ≡ false → n % 2 ≡ 1
odd_is n h = grind (arith, nat_tests)

-- the half of a place, as a relation and as a test
pub half_there : (place : ℕ) (k : Known) → KnownFits place k → IsHalfOf place k × IsInRange k
half_there place (knowns.One (events.Enter call time)) fits = (eqb-true (place % 2) 0 fits.0, fits.1)
half_there place (knowns.One (events.Return found time)) fits = (odd_is place fits.0, fits.1)
half_there place knowns.Contradiction fits = (tt, tt)

pub half_here : (place : ℕ) (k : Known) → IsHalfOf place k → IsInRange k → KnownFits place k
half_here place (knowns.One (events.Enter call time)) half fits = (rw half refl, fits)
half_here place (knowns.One (events.Return found time)) half fits = (rw half refl, fits)
half_here place knowns.Contradiction half fits = tt

known_by_takes : (place n : ℕ) (bytes : List ℕ) (x : Known × List ℕ) → IsBytes bytes → known_by place n bytes ≡ Some x → Takes (n ∷ bytes) (known_bytes x.0) x.1 × KnownFits place x.0
known_by_takes place n bytes x fits e0 =
    choose (λ (k : ℕ). Takes (k ∷ bytes) (known_bytes x.0) x.1 × KnownFits place x.0) n 0 _ _ x e0 (λ h.
    let p = bind_some (event_at place bytes) (λ y. Some (knowns.One y.0, y.1)) x h in
    let t = (event_form place).takes bytes p.0 fits p.1 in
    subst (λ (y : Known × List ℕ). Takes (0 ∷ bytes) (known_bytes y.0) y.1 × KnownFits place y.0) (some_is (knowns.One p.0.0, p.0.1) x p.2) (record { parts = ap (λ (r : List ℕ). 0 ∷ r) t.0.parts; rest_fits = t.0.rest_fits }, t.1)) (λ e1.
    choose (λ (k : ℕ). Takes (k ∷ bytes) (known_bytes x.0) x.1 × KnownFits place x.0) n 1 _ _ x e1 (λ h. subst (λ (y : Known × List ℕ). Takes (1 ∷ bytes) (known_bytes y.0) y.1 × KnownFits place y.0) (some_is (knowns.Contradiction, bytes) x h) (record { parts = refl; rest_fits = fits }, tt)) (λ e2. no_value _ x e2))

pub known_takes : (place : ℕ) (bytes : List ℕ) (x : Known × List ℕ) → IsBytes bytes → known_at place bytes ≡ Some x → Takes bytes (known_bytes x.0) x.1 × KnownFits place x.0
known_takes place [] x fits e = absurd cc
known_takes place (b ∷ bytes) x fits e = known_by_takes place b bytes x (IsBytes-rest b bytes fits) e

pub known_again : (place : ℕ) (k : Known) (rest : List ℕ) → KnownFits place k → length (known_bytes k) < 2 ^ 32 → known_at place (known_bytes k ++ rest) ≡ Some (k, rest)
known_again place (knowns.One event) rest fits short = ap (made (λ e. knowns.One e)) ((event_form place).again event rest fits (omega arith))
known_again place knowns.Contradiction rest fits short = refl

-- ---- cells

pub place_law : IsForm place_form (λ p. (p.0 < 2 ^ 32) × (p.1 < 2 ^ 64))
place_law = pair_form (number w32) (number w64) _ _ (number_form w32 (2 ^ 32) wide32) (number_form w64 (2 ^ 64) wide64)

abbrev CellFits : Entry → Type 0
CellFits e = (e.0.0 < 2 ^ 32) × (e.0.1 < 2 ^ 40) × KnownFits e.0.1 e.1

cell_there : (e : Entry) → CellFits e → IsPlaced e.0.0 e.0.1 e.1 × IsInRange e.1
cell_there e fits = let h = half_there e.0.1 e.1 fits.2 in (record { ranks = fits.0; places = fits.1; half = h.0 }, h.1)

cell_here : (e : Entry) → IsPlaced e.0.0 e.0.1 e.1 × IsInRange e.1 → CellFits e
cell_here e fits = (fits.0.ranks, fits.0.places, half_here e.0.1 e.1 fits.0.half fits.1)

cell_takes : (before : Option (ℕ × ℕ)) (bytes : List ℕ) (x : Entry × List ℕ) → IsBytes bytes → cell_at before bytes ≡ Ok x → Takes bytes (cell_bytes x.0) x.1 × (is_past before x.0.0 ≡ true) × CellFits x.0
cell_takes before bytes x fits e =
    let p = bind_ok (or_fault Content (place_form.read bytes)) (cell_after before) x e in
    let s = place_law.takes bytes p.0 fits (or_ok Content (place_form.read bytes) p.0 p.1) in
    let g = passed (is_past before p.0.0) Order (cond (ltb p.0.0.1 (2 ^ 40)) (or_fault Content (made (λ k. (p.0.0, k)) (known_at p.0.0.1 p.0.1))) (Err Content)) x p.2 in
    let h = passed (ltb p.0.0.1 (2 ^ 40)) Content (or_fault Content (made (λ k. (p.0.0, k)) (known_at p.0.0.1 p.0.1))) x g.1 in
    let m = or_ok Content (made (λ k. (p.0.0, k)) (known_at p.0.0.1 p.0.1)) x h.1 in
    let q = bind_some (known_at p.0.0.1 p.0.1) (λ y. Some ((p.0.0, y.0), y.1)) x m in
    let t = known_takes p.0.0.1 p.0.1 q.0 s.0.rest_fits q.1 in
    let both = Takes-then bytes (place_form.spell p.0.0) p.0.1 (known_bytes q.0.0) q.0.1 s.0 t.0 in
    subst (λ (y : Entry × List ℕ). Takes bytes (cell_bytes y.0) y.1 × (is_past before y.0.0 ≡ true) × CellFits y.0) (some_is ((p.0.0, q.0.0), q.0.1) x q.2) (both, g.0, (s.1.0, ltb-true _ _ h.0, t.1))

below_true : (m n : ℕ) → m < n → ltb m n ≡ true
below_true m n h = grind (arith, nat_tests)

-- a cell that was read stands past the one before, where it can stand
pub cell_read : (before : Option (ℕ × ℕ)) (bytes : List ℕ) (x : Entry × List ℕ) → IsBytes bytes → cell_at before bytes ≡ Ok x → (is_past before x.0.0 ≡ true) × IsPlaced x.0.0.0 x.0.0.1 x.0.1
cell_read before bytes x fits e = let t = cell_takes before bytes x fits e in (t.1, (cell_there x.0 t.2).0)

pub cell_made : (before : Option (ℕ × ℕ)) (bytes : List ℕ) (here : ℕ × ℕ) (rest : List ℕ) (k : Known) (after : List ℕ) → place_form.read bytes ≡ Some (here, rest) → is_past before here ≡ true → here.1 < 2 ^ 40 → known_at here.1 rest ≡ Some (k, after)
    → cell_at before bytes ≡ Ok ((here, k), after)
cell_made before bytes here rest k after place past below known =
    ap (λ (r : Option ((ℕ × ℕ) × List ℕ)). or_fault Content r >=> cell_after before) place ∙ rw (past, below_true here.1 (2 ^ 40) below, known) refl

cell_again : (before : Option (ℕ × ℕ)) (e : Entry) (rest : List ℕ) → is_past before e.0 ≡ true → CellFits e → length (cell_bytes e) < 2 ^ 32 → cell_at before (cell_bytes e ++ rest) ≡ Ok (e, rest)
cell_again before e rest past fits short =
    let there : length (known_bytes e.1) < 2 ^ 32 = omega (arith, length-append (place_form.spell e.0) (known_bytes e.1), short) in
    let here : length (place_form.spell e.0) < 2 ^ 32 = omega (arith, length-append (place_form.spell e.0) (known_bytes e.1), short) in
    let one = place_law.again e.0 (known_bytes e.1 ++ rest) (fits.0, omega (arith, fits.1)) here in
    let two = known_again e.0.1 e.1 rest fits.2 there in
    ap (cell_at before) (append_assoc (place_form.spell e.0) (known_bytes e.1) rest)
    ∙ ap (λ (r : Option ((ℕ × ℕ) × List ℕ)). or_fault Content r >=> cell_after before) one
    ∙ rw (past, below_true e.0.1 (2 ^ 40) fits.1, two) refl

-- what a cell has to be past, and where it stands
abbrev pub CellStands : Option (ℕ × ℕ) → Entry → Type 0
CellStands before e = (is_past before e.0 ≡ true) × (IsPlaced e.0.0 e.0.1 e.1 × IsInRange e.1)

pub cell_part : IsPart cell CellStands
cell_part = record {
  takes = λ before bytes x fits e. let t = cell_takes before bytes x fits e in (t.0, (t.1, cell_there x.0 t.2));
  again = λ before e rest fits short. cell_again before e rest fits.0 (cell_here e fits.1) short;
  some = λ e. omega (arith, length-append (place_form.spell e.0) (known_bytes e.1));
}
