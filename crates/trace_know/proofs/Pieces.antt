-- Runs of the events of a segment.
use Rattle.std.proofs.Common.{◌≡◌, ℕ, List, [], ◌∷◌, ◌++◌, length, map, refl, sym, ap, subst, ◌∙◌, arith}
use Rattle.mpi_model.specs.declared.event.Event.{Event}
use Rattle.trace_know.specs.declared.cell.Known.{Known}
use Rattle.trace_know.specs.declared.cell.Known.TheVariants.{One, Contradiction}
use Rattle.trace_know.specs.declared.run.Run.{Run}
use Rattle.trace_know.specs.Placed.{IsKnowledge}
use Rattle.trace_know.specs.Ready.{AreEvents, IsReady, IsReadyPiece, events_among, segment_in}
use Rattle.trace_know.specs.Runs.{of_run, IsAlike, IsCounted, IsFilled, conflicts_among, sound_among}
use Rattle.trace_know.specs.Segment.{PlacedEvents, IsPiece, IsSegment}
use Rattle.trace_know.specs.Trace.{facts_of, view_of}
use Rattle.trace_know.proofs.Counts.{conflicts-events, length-ones, ones_behind}
use Rattle.trace_know.proofs.Order.{counted-alike}
use Rattle.trace_know.proofs.Placed.{piece-IsKnowledge, segment-IsKnowledge, segment-piece}
use Rattle.trace_know.proofs.Rows.{run-facts}

-- cells that are all one event have just these events
pub events-ones : (es : List Event) → events_among (map (λ e. One e) es) ≡ es
events-ones [] = refl
events-ones (e ∷ es) = ap (λ (fs : List Event). e ∷ fs) (events-ones es)

pub segment-of-run : (run : Run) (segment : PlacedEvents) → run.rank ≡ segment.rank → run.first ≡ segment.first_place → run.cells.items ≡ map (λ e. One e) segment.events → segment_in run ≡ segment
segment-of-run run segment rank first cells =
    let events : events_among run.cells.items ≡ segment.events = ap events_among cells ∙ events-ones segment.events in
    λ i. record { rank = rank i; first_place = first i; events = events i }

-- a run of the events of a segment is ready
pub run-ready : (run : Run) (segment : PlacedEvents) → IsSegment segment → run.rank ≡ segment.rank → run.first ≡ segment.first_place → run.cells.items ≡ map (λ e. One e) segment.events → IsCounted run → IsReady run
run-ready run segment is rank first cells counted =
    let same = segment-of-run run segment rank first cells in
    let events : segment.events ≡ events_among run.cells.items = sym (ap events_among cells ∙ events-ones segment.events) in
    record {
      whole = cells ∙ ap (λ (es : List Event). map {B = Known} (λ e. One e) es) events;
      counted = counted;
      segment = subst IsSegment (sym same) is;
    }

pub ready-filled : (run : Run) → IsReady run → IsFilled run
ready-filled run ready =
    let lengths : length run.cells.items ≡ length (events_among run.cells.items) = ap length ready.whole ∙ length-ones (events_among run.cells.items) in
    record { some = omega (arith, ready.segment.some); places = omega (arith, ready.segment.places); counted = ready.counted }

pub ready-facts : (run : Run) → IsReady run → of_run run ≡ view_of (facts_of (segment_in run))
ready-facts run ready = run-facts run (segment_in run) refl refl ready.whole

pub ready-placed : (run : Run) → IsReady run → IsKnowledge (of_run run)
ready-placed run ready = subst IsKnowledge (sym (ready-facts run ready)) (segment-IsKnowledge (segment_in run) ready.segment)

-- ---- a piece whole

pub segment-ready : (run : Run) → IsReady run → IsReadyPiece run
segment-ready run ready = record { whole = ready.whole; counted = ready.counted; piece = segment-piece (segment_in run) ready.segment }

-- a run of the events of a piece is ready
pub run-piece : (run : Run) (piece : PlacedEvents) → IsPiece piece → run.rank ≡ piece.rank → run.first ≡ piece.first_place → run.cells.items ≡ map (λ e. One e) piece.events → IsCounted run → IsReadyPiece run
run-piece run piece is rank first cells counted =
    let same = segment-of-run run piece rank first cells in
    let events : piece.events ≡ events_among run.cells.items = sym (ap events_among cells ∙ events-ones piece.events) in
    record {
      whole = cells ∙ ap (λ (es : List Event). map {B = Known} (λ e. One e) es) events;
      counted = counted;
      piece = subst IsPiece (sym same) is;
    }

pub piece-filled : (run : Run) → IsReadyPiece run → IsFilled run
piece-filled run ready =
    let lengths : length run.cells.items ≡ length (events_among run.cells.items) = ap length ready.whole ∙ length-ones (events_among run.cells.items) in
    record { some = omega (arith, ready.piece.some); places = omega (arith, ready.piece.places); counted = ready.counted }

pub piece-facts : (run : Run) → IsReadyPiece run → of_run run ≡ view_of (facts_of (segment_in run))
piece-facts run ready = run-facts run (segment_in run) refl refl ready.whole

pub piece-placed : (run : Run) → IsReadyPiece run → IsKnowledge (of_run run)
piece-placed run ready = subst IsKnowledge (sym (piece-facts run ready)) (piece-IsKnowledge (segment_in run) ready.piece)

pub alike-piece : (a b : Run) → IsAlike a b → IsReadyPiece b → IsReadyPiece a
alike-piece a b same ready = run-piece a (segment_in b) ready.piece same.rank same.first (same.cells ∙ ready.whole) (counted-alike a b same ready.counted)

-- ---- a segment

pub ready-sound : (run : Run) → IsReady run → conflicts_among run.cells.items ≡ 0
ready-sound run ready = ap conflicts_among ready.whole ∙ conflicts-events (events_among run.cells.items)

pub alike-segment : (a b : Run) → IsAlike a b → segment_in a ≡ segment_in b
alike-segment a b same = λ i. record { rank = same.rank i; first_place = same.first i; events = events_among (same.cells i) }

pub alike-ready : (a b : Run) → IsAlike a b → IsReady b → IsReady a
alike-ready a b same ready = run-ready a (segment_in b) ready.segment same.rank same.first (same.cells ∙ ready.whole) (counted-alike a b same ready.counted)

-- ---- an event behind others

pub events_behind : (ks : List Known) (e : Event) → events_among (ks ++ One e ∷ []) ≡ events_among ks ++ e ∷ []
events_behind [] e = refl
events_behind (One f ∷ ks) e = ap (λ (es : List Event). f ∷ es) (events_behind ks e)
events_behind (Contradiction ∷ ks) e = events_behind ks e

pub are_events : (ks new : List Known) (sound : ℕ) (e : Event) → ks ≡ map (λ e. One e) (events_among ks) → new ≡ ks ++ One e ∷ [] → sound ≡ sound_among new → AreEvents new sound
are_events ks new sound e whole is counted =
    let events : events_among ks ++ e ∷ [] ≡ events_among new = sym (ap events_among is ∙ events_behind ks e) in
    record {
      whole = is
          ∙ ap (λ (xs : List Known). xs ++ One e ∷ []) whole
          ∙ ones_behind (events_among ks) e
          ∙ ap (λ (es : List Event). map {B = Known} (λ e. One e) es) events;
      counted = counted;
    }
