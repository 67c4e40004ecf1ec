-- The facts of pieces, one piece more.
use Rattle.std.proofs.Common.{◌≡◌, ◌∙◌, ◌+◌, ◌++◌, ◌∷◌, [], ℕ, List, Option, Some, None, String, ap, sym, refl, subst, inl, inr, length, take, drop, get_or, arith, ◌<◌, ◌≢◌, append_assoc, append-nil}
use Rattle.std.specs.List.{All}
use Rattle.std.proofs.lemmas.List.{take-append-drop}
use Rattle.std.proofs.lemmas.List.Elements.{All-push}
use Rattle.std.specs.declared.alloc.Global.{Global}
use Rattle.mpi_model.specs.declared.event.Event.{Event}
use Rattle.trace_know.specs.Segment.{PlacedEvents}
use Rattle.trace_know.specs.Trace.{Trace, facts_from, facts_of_all, view_of}
use Rattle.trace_know.specs.View.{View, join}
use Rattle.run_files.specs.Manifests.{PieceParts}
use Rattle.command_runs.specs.Pieces.{TellsFacts, facts_of_piece}
use Rattle.command_runs.specs.Traces.{Begin, IsFirstStranger, IsInside, IsKnown, KeepsFirst, TellTrace}

tell_more : (file : List ℕ → Option (List ℕ)) (pieces : List PieceParts) (piece : PieceParts) (trace own : Trace)
    → TellTrace file pieces trace → TellsFacts (file piece.file) piece.rank piece.first own → TellTrace file (pieces ++ piece ∷ []) (trace ++ own)
tell_more file [] piece trace own e h = (own, [], h, refl, ap (λ (t : Trace). t ++ own) e ∙ sym (append-nil own))
tell_more file (p ∷ ps) piece trace own t h =
    (t.0, t.1 ++ own, t.2, tell_more file ps piece t.1 own t.3 h, ap (λ (facts : Trace). facts ++ own) t.4 ∙ append_assoc t.0 t.1 own)

-- the view of a union is the join of the views
abbrev pub Unites : Type 0
Unites = (a b : Trace) → view_of (a ++ b) ≡ join (view_of a) (view_of b)

pub known_more : Unites → (file : List ℕ → Option (List ℕ)) (pieces : List PieceParts) (piece : PieceParts) (view new : View) (own : Trace)
    → IsKnown file pieces view → TellsFacts (file piece.file) piece.rank piece.first own → new ≡ join view (view_of own)
    → IsKnown file (pieces ++ piece ∷ []) new
known_more unites file pieces piece view new own k h e =
    (k.0 ++ own, tell_more file pieces piece k.0 own k.1 h, e ∙ ap (λ (v : View). join v (view_of own)) k.2 ∙ sym (unites k.0 own))

-- what is known of strangers after these pieces: none is among them, or this is the first
abbrev pub IsOutside : (List ℕ → Option (List ℕ)) → ℕ → List PieceParts → Option (String Global) → Type 0
IsOutside file ranks pieces None = All (IsInside file ranks) pieces
IsOutside file ranks pieces (Some path) = IsFirstStranger file ranks pieces path

-- a stranger stays the first when a piece is added
later : (file : List ℕ → Option (List ℕ)) (ranks : ℕ) (pieces : List PieceParts) (piece : PieceParts) (path : String Global)
    → IsFirstStranger file ranks pieces path → IsFirstStranger file ranks (pieces ++ piece ∷ []) path
later file ranks pieces piece path h =
    (h.0, h.1, (h.2.0 ++ piece ∷ [], ap (λ (ps : List PieceParts). ps ++ piece ∷ []) h.2.1 ∙ append_assoc h.0 (h.1 ∷ h.2.0) (piece ∷ [])), h.3, h.4)

pub outside_more : (file : List ℕ → Option (List ℕ)) (ranks : ℕ) (pieces : List PieceParts) (piece : PieceParts) (facts : Trace)
    (old new : Option (String Global)) → IsOutside file ranks pieces old → TellsFacts (file piece.file) piece.rank piece.first facts
    → KeepsFirst ranks piece facts old new → IsOutside file ranks (pieces ++ piece ∷ []) new
outside_more file ranks pieces piece facts (Some path) new h told n =
    subst (λ (o : Option (String Global)). IsOutside file ranks (pieces ++ piece ∷ []) o) (sym n) (later file ranks pieces piece path h)
outside_more file ranks pieces piece facts None None h told n =
    All-push (IsInside file ranks) pieces piece h (elim n [
      | inl below ↦ inl below
      | inr e ↦ inr (subst (λ (own : Trace). TellsFacts (file piece.file) piece.rank piece.first own) e told)
    ])
outside_more file ranks pieces piece facts None (Some path) h told n =
    (pieces, piece, ([], refl), h, (n.0, n.1, (facts, told, n.2)))

pub outside_later : (file : List ℕ → Option (List ℕ)) (ranks : ℕ) (front : List PieceParts) (pieces : List PieceParts) (piece : PieceParts) (facts : Trace)
    (old new : Option (String Global)) → pieces ≡ front ++ piece ∷ [] → IsOutside file ranks front old → TellsFacts (file piece.file) piece.rank piece.first facts
    → KeepsFirst ranks piece facts old new → IsOutside file ranks pieces new
outside_later file ranks front pieces piece facts old new e h told n =
    subst (λ (ps : List PieceParts). IsOutside file ranks ps new) (sym e) (outside_more file ranks front piece facts old new h told n)

-- a list at one of its elements
pub begins : (pieces : List PieceParts) (i : ℕ) (piece : PieceParts) → take (i + 1) pieces ≡ take i pieces ++ piece ∷ [] → Begin (take i pieces) piece pieces
begins pieces i piece e = (
  drop (i + 1) pieces,
  sym (take-append-drop (i + 1) pieces) ∙ ap (λ (ps : List PieceParts). ps ++ drop (i + 1) pieces) e
      ∙ append_assoc (take i pieces) (piece ∷ []) (drop (i + 1) pieces),
)

none_of : (rank place : ℕ) (events : List Event) → 0 < length events → (rest : Trace) → facts_from rank place events ++ rest ≢ []
none_of rank place [] some rest e = omega arith
none_of rank place (event ∷ events) some rest e = cc

none_from : (rank place : ℕ) (events : List Event) → 0 < length events → facts_from rank place events ≢ []
none_from rank place [] some e = omega arith
none_from rank place (event ∷ events) some e = cc

-- a piece that has an event tells a fact
pub facts_of_one : (whole : Option PlacedEvents) (piece : PlacedEvents) → whole ≡ Some piece → 0 < length piece.events → facts_of_piece whole ≢ []
facts_of_one whole piece is some e = none_from piece.rank piece.first_place piece.events some (ap facts_of_piece (sym is) ∙ e)

-- segments of which the first has an event tell a fact
facts_of_some : (segment : PlacedEvents) (segments : List PlacedEvents) → 0 < length segment.events → facts_of_all (segment ∷ segments) ≢ []
facts_of_some segment segments some e = none_of segment.rank segment.first_place segment.events some (facts_of_all segments) e

pub facts_of_first : (segments : List PlacedEvents) (first : PlacedEvents) → 0 < length segments → first ≡ get_or segments 0 first
    → 0 < length first.events → facts_of_all segments ≢ []
facts_of_first [] first some is events e = omega arith
facts_of_first (segment ∷ segments) first some is events e = facts_of_some segment segments (subst (λ (s : PlacedEvents). 0 < length s.events) is events) e
