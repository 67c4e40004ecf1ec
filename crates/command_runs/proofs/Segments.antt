-- The segments of pieces, one piece more, and the facts that they stand for.
use Rattle.std.proofs.Common.{◌≡◌, ◌∙◌, ◌+◌, ◌++◌, ◌∷◌, [], ℕ, List, Option, ap, sym, refl, subst, take}
use Rattle.std.specs.Prelude.{Vec}
use Rattle.std.specs.List.{flat_map}
use Rattle.std.specs.declared.alloc.Global.{Global}
use Rattle.std.proofs.lemmas.List.{map-append}
use Rattle.dumpi_calls.specs.Whole.{SegmentsTellAll}
use Rattle.trace_know.specs.Segment.{PlacedEvents}
use Rattle.trace_know.specs.Trace.{facts_of_all, view_of}
use Rattle.trace_know.specs.View.{View}
use Rattle.run_files.specs.Manifests.{PieceParts}
use Rattle.command_runs.specs.Pieces.{RefusesPiece, TellsSegments}
use Rattle.command_runs.specs.Refusals.{RefusesFirst}
use Rattle.command_runs.specs.Schedules.{TellSegments, held_lists}
use Rattle.command_runs.specs.Traces.{IsKnown, TellTrace}
use Rattle.run_inputs.specs.declared.faults.fault.RunFault.{RunFault}
use Rattle.command_runs.proofs.Traces.{begins}

segments_more : (file : List ℕ → Option (List ℕ)) (pieces : List PieceParts) (piece : PieceParts) (lists : List (List PlacedEvents)) (own : List PlacedEvents)
    → TellSegments file pieces lists → TellsSegments (file piece.file) piece.rank piece.first own → TellSegments file (pieces ++ piece ∷ []) (lists ++ own ∷ [])
segments_more file [] piece lists own e h = (own, [], h, refl, ap (λ (ls : List (List PlacedEvents)). ls ++ own ∷ []) e)
segments_more file (p ∷ ps) piece lists own t h =
    (t.0, t.1 ++ own ∷ [], t.2, segments_more file ps piece t.1 own t.3 h, ap (λ (ls : List (List PlacedEvents)). ls ++ own ∷ []) t.4)

-- one piece of a manifest more, its segments held by a vector
pub segments_later : (file : List ℕ → Option (List ℕ)) (front : List PieceParts) (pieces : List PieceParts) (piece : PieceParts)
    (lists new : List (Vec PlacedEvents Global)) (own : Vec PlacedEvents Global) → pieces ≡ front ++ piece ∷ [] → new ≡ lists ++ own ∷ []
    → TellSegments file front (held_lists lists) → TellsSegments (file piece.file) piece.rank piece.first own.items → TellSegments file pieces (held_lists new)
segments_later file front pieces piece lists new own e n t h =
    subst (λ (ps : List PieceParts). TellSegments file ps (held_lists new)) (sym e)
    (subst (λ (ls : List (List PlacedEvents)). TellSegments file (front ++ piece ∷ []) ls)
    (sym (ap held_lists n ∙ map-append (λ (v : Vec PlacedEvents Global). v.items) lists (own ∷ [])))
    (segments_more file front piece (held_lists lists) own.items t h))

-- pieces that tell segments tell facts
traced : SegmentsTellAll → (file : List ℕ → Option (List ℕ)) (pieces : List PieceParts) (lists : List (List PlacedEvents))
    → TellSegments file pieces lists → TellTrace file pieces (flat_map facts_of_all lists)
traced all file [] lists e = ap (flat_map facts_of_all) e
traced all file (p ∷ ps) lists t = (
  facts_of_all t.0,
  flat_map facts_of_all t.1,
  (t.2.0, t.2.1, all p.rank p.first t.2.0 t.0 t.2.2),
  traced all file ps t.1 t.3,
  ap (flat_map facts_of_all) t.4,
)

known_of : SegmentsTellAll → (file : List ℕ → Option (List ℕ)) (pieces : List PieceParts) (lists : List (List PlacedEvents))
    → TellSegments file pieces lists → (view : View) × IsKnown file pieces view
known_of all file pieces lists t = (view_of (flat_map facts_of_all lists), (flat_map facts_of_all lists, traced all file pieces lists t, refl))

-- a piece is refused after others that tell segments
pub first_refused : SegmentsTellAll → (file : List ℕ → Option (List ℕ)) (pieces : List PieceParts) (i : ℕ) (piece : PieceParts) (lists : List (List PlacedEvents)) (fault : RunFault)
    → take (i + 1) pieces ≡ take i pieces ++ piece ∷ [] → TellSegments file (take i pieces) lists
    → RefusesPiece piece.file piece.first (file piece.file) fault → RefusesFirst file pieces fault
first_refused all file pieces i piece lists fault e t refuses =
    (take i pieces, piece, begins pieces i piece e, known_of all file (take i pieces) lists t, refuses)
