-- What is readable of cells that stand one after another.
use Rattle.std.proofs.Common.{inl, inr, cond, Bool, ◌≡◌, ℕ, ◌<◌, ◌≤◌, suc, zero, Some, None, List, [], ◌∷◌, length, refl, ap, sym, ◌∙◌, arith}
use Rattle.std.specs.Prelude.{slice_index_or}
use Rattle.std.specs.List.{slice_get}
use Rattle.std.specs.FinMap.{get}
use Rattle.mpi_model.specs.declared.event.Event.{Event}
use Rattle.trace_know.specs.declared.cell.Known.{Known}
use Rattle.trace_know.specs.declared.cell.Known.TheVariants.{One, Contradiction}
use Rattle.trace_know.specs.declared.run.Run.{Run}
use Rattle.trace_know.specs.Prefix.{enters_unread, events_of, readable_of}
use Rattle.trace_know.specs.Readable.{readable_among}
use Rattle.trace_know.specs.Runs.{of_runs, sound_among, IsFront}
use Rattle.trace_know.proofs.SameEvents.{false_or_true}
use Rattle.trace_know.proofs.Counts.{sound-le}
use Rattle.trace_know.proofs.Fronts.{sound-end}
use Rattle.trace_know.proofs.Prefixes.{events_are}

-- one event is readable of each sound cell
pub sound-count : (ks : List Known) → sound_among ks ≡ length (readable_among ks)
sound-count [] = refl
sound-count (Contradiction ∷ ks) = refl
sound-count (One e ∷ ks) = elim (false_or_true (enters_unread e)) [
  | inl t ↦ rw t refl
  | inr f ↦ rw f (ap (λ n. suc n) (sound-count ks))
]

-- there are no more than cells
pub sound-within : (ks : List Known) → length (readable_among ks) ≤ length ks
sound-within ks = let count = sound-count ks in let most = sound-le ks in omega arith

-- where a cell is sound, so is the first
passed : (e : Event) (ks : List Known) (i : ℕ) → i < length (readable_among (One e ∷ ks)) → readable_among (One e ∷ ks) ≡ e ∷ readable_among ks
passed e ks i lt = elim (false_or_true (enters_unread e)) [
  | inl t ↦ let none = ap (λ (b : Bool). length (cond b [] (e ∷ readable_among ks))) t in absurd (omega arith)
  | inr f ↦ ap (λ (b : Bool). cond b [] (e ∷ readable_among ks)) f
]

behind : (e : Event) (ks : List Known) (i : ℕ) → suc i < length (readable_among (One e ∷ ks)) → i < length (readable_among ks)
behind e ks i lt = let more = ap (λ (es : List Event). length es) (passed e ks (suc i) lt) in omega arith

-- what is readable of a cell is the event at its place
sound-each : (ks : List Known) (i : ℕ) → i < length (readable_among ks) → readable_of (slice_get ks i) ≡ slice_get (readable_among ks) i
sound-each [] i lt = absurd (omega arith)
sound-each (Contradiction ∷ ks) i lt = absurd (omega arith)
sound-each (One e ∷ ks) (suc i) lt = sound-each ks i (behind e ks i lt) ∙ sym (ap (λ (es : List Event). slice_get es (suc i)) (passed e ks (suc i) lt))
sound-each (One e ∷ ks) zero lt = elim (false_or_true (enters_unread e)) [
  | inl t ↦ let none = ap (λ (b : Bool). length (cond b [] (e ∷ readable_among ks))) t in absurd (omega arith)
  | inr f ↦ rw f refl
]

-- the readable events of a rank are those of the run that it begins with
pub front-events : (rs : List Run) (rank : ℕ) (r : Run) → IsFront rs rank r → readable_among r.cells.items ≡ events_of (of_runs rs) rank
front-events rs rank r h =
    let ks = r.cells.items in
    let count = sound-count ks in
    let most = sound-within ks in
    events_are (of_runs rs) rank (readable_among ks) (record {
      each = λ i lt. ap readable_of (h.cells i (omega arith)) ∙ sound-each ks i lt;
      end = ap readable_of (h.cells (length (readable_among ks)) (omega arith)) ∙ ap (λ (i : ℕ). readable_of (slice_get ks i)) (sym count) ∙ sound-end ks;
    })

-- without such a run there are none
pub no-events : (rs : List Run) (rank : ℕ) → get (of_runs rs) (rank, 0) ≡ None → [] ≡ events_of (of_runs rs) rank
no-events rs rank none = events_are (of_runs rs) rank [] (record { each = λ i lt. absurd (omega arith); end = ap readable_of none })

-- ---- the cell at a place

-- it has one event
pub sound-one : (ks : List Known) (i : ℕ) (k : Known) → i < length (readable_among ks) → k ≡ slice_index_or ks i k → k ≡ Contradiction → ⊥
sound-one [] i k lt at two = absurd (omega arith)
sound-one (Contradiction ∷ ks) i k lt at two = absurd (omega arith)
sound-one (One e ∷ ks) zero k lt at two = let both : One e ≡ Contradiction = sym at ∙ two in absurd cc
sound-one (One e ∷ ks) (suc i) k lt at two = sound-one ks i k (behind e ks i lt) at two

-- it has the event there
pub sound-here : (ks : List Known) (i : ℕ) (k : Known) (e : Event) → i < length (readable_among ks) → k ≡ slice_index_or ks i k → k ≡ One e → slice_get (readable_among ks) i ≡ Some e
sound-here [] i k e lt at one = absurd (omega arith)
sound-here (Contradiction ∷ ks) i k e lt at one = absurd (omega arith)
sound-here (One x ∷ ks) zero k e lt at one =
    let both : One x ≡ One e = sym at ∙ one in
    let same : x ≡ e = cc in
    ap (λ (es : List Event). slice_get es 0) (passed x ks 0 lt) ∙ ap (λ (y : Event). Some y) same
sound-here (One x ∷ ks) (suc i) k e lt at one = ap (λ (es : List Event). slice_get es (suc i)) (passed x ks (suc i) lt) ∙ sound-here ks i k e (behind x ks i lt) at one
