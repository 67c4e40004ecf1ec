-- Segments in any order tell the same.
use Rattle.std.proofs.Common.{◌≡◌, ◌∙◌, ◌++◌, List, [], ◌∷◌, ap, sym, subst, inl, inr, arith}
use Rattle.std.proofs.lemmas.List.{append-nil}
use Rattle.std.proofs.lemmas.Grind.{flat_map-append}
use Rattle.std.specs.Prelude.{Contains}
use Rattle.std.specs.List.Sorted.{IsPermutation}
use Rattle.std.proofs.lemmas.List.Elements.{Contains-append_left, Contains-append_right, Contains-append_cases}
use Rattle.std.proofs.lemmas.List.Sorted.{Contains-permutation, IsPermutation-sym}
use Rattle.trace_know.specs.Segment.{PlacedEvents}
use Rattle.trace_know.specs.Trace.{Fact, Trace, facts_of, facts_of_all, view_of}
use Rattle.trace_know.specs.View.{View, join}
use Rattle.trace_know.proofs.Facts.{view_of-append, view_of-same_facts}
use Rattle.trace_know.proofs.Joins.{join-assoc}
use Rattle.trace_know.proofs.Membership.{here, there, split}

-- the segment among these that a fact comes from
segment_with : (segments : List PlacedEvents) (fact : Fact) → Contains (facts_of_all segments) fact
    → (segment : PlacedEvents) × Contains segments segment × Contains (facts_of segment) fact
segment_with [] fact h = absurd (omega (arith, h.1))
segment_with (first ∷ segments) fact h = elim (Contains-append_cases (facts_of first) (facts_of_all segments) fact h) [
  | inl own ↦ (first, here first segments, own)
  | inr later ↦ let at = segment_with segments fact later in (at.0, there first at.0 segments at.1, at.2)
]

-- a fact of one of the segments is one of all
fact_with : (segments : List PlacedEvents) (segment : PlacedEvents) (fact : Fact) → Contains segments segment → Contains (facts_of segment) fact
    → Contains (facts_of_all segments) fact
fact_with [] segment fact h own = absurd (omega (arith, h.1))
fact_with (first ∷ segments) segment fact h own = elim (split first segment segments h) [
  | inl is ↦ Contains-append_left (facts_of first) (facts_of_all segments) fact (subst (λ (s : PlacedEvents). Contains (facts_of s) fact) (sym is) own)
  | inr later ↦ Contains-append_right (facts_of first) (facts_of_all segments) fact (fact_with segments segment fact later own)
]

moved : (one other : List PlacedEvents) → IsPermutation one other → (fact : Fact) → Contains (facts_of_all one) fact → Contains (facts_of_all other) fact
moved one other p fact h =
    let at = segment_with one fact h in
    fact_with other at.0 fact (Contains-permutation one other at.0 p at.1) at.2

pub any_order : (one other : List PlacedEvents) → IsPermutation one other → view_of (facts_of_all other) ≡ view_of (facts_of_all one)
any_order one other p =
    view_of-same_facts (facts_of_all other) (facts_of_all one) (λ fact. (moved other one (IsPermutation-sym one other p) fact, moved one other p fact))

-- a view with the facts of segments, and those of one more
pub one_more : (view : View) (segments : List PlacedEvents) (segment : PlacedEvents)
    → join (join view (view_of (facts_of_all segments))) (view_of (facts_of segment)) ≡ join view (view_of (facts_of_all (segments ++ segment ∷ [])))
one_more view segments segment =
    let facts : facts_of_all (segments ++ segment ∷ []) ≡ facts_of_all segments ++ facts_of segment =
    flat_map-append facts_of segments (segment ∷ []) ∙ ap (λ (t : Trace). facts_of_all segments ++ t) (append-nil (facts_of segment)) in
    join-assoc view (view_of (facts_of_all segments)) (view_of (facts_of segment))
    ∙ ap (join view) (sym (view_of-append (facts_of_all segments) (facts_of segment)) ∙ ap view_of (sym facts))
