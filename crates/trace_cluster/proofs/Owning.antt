-- What a node's crew has joined the node knows, and keeps.
use Rattle.std.proofs.Common.{◌≡◌, List, [], ◌∷◌, ◌++◌, Option, Some, None, refl, sym, ap, ◌∙◌, subst}
use Rattle.std.specs.List.{All, AllByRecursion, flat_map}
use Rattle.std.specs.FinMap.{empty}
use Rattle.std.proofs.lemmas.List.Elements.{All-from_recursion, All-weaker}
use Rattle.mpi_model.specs.Layouts.{Parts}
use Rattle.trace_know.specs.Segment.{PlacedEvents}
use Rattle.trace_know.specs.Trace.{Trace, facts_of, view_of}
use Rattle.trace_know.specs.View.{View, IsBelow, join}
use Rattle.trace_node.specs.Node.{Held}
use Rattle.trace_node.specs.declared.fault.NodeFault.{NodeFault}
use Rattle.trace_crew.specs.declared.queue.item.Worker.{Worker}
use Rattle.trace_crew.specs.declared.queue.item.Worker.TheVariants.{First, Second}
use Rattle.trace_crew.specs.declared.piece.TextPiece.{TextPiece}
use Rattle.trace_crew.specs.declared.threads.CrewOut.{CrewOut}
use Rattle.trace_crew.specs.Crewed.{IsCrewOut, segments_by}
use Rattle.trace_crew.specs.Pieces.{Gave}
use Rattle.trace_crew.specs.Taking.{Taken, joined_for, joined_in, refused_as, refused_for, refused_in}
use Rattle.trace_cluster.specs.declared.workload.Workload.{Workload}
use Rattle.trace_cluster.specs.Clustered.{KnowsOwn, KnowsPiece}
use Rattle.trace_cluster.specs.Meeting.{IsMore}
use Rattle.trace_cluster.proofs.Finding.{Faults, Found, all_found}
use Rattle.trace_cluster.proofs.Lists.{nil_first, nil_rest, no_element}
use Rattle.trace_cluster.proofs.Taking.{by_worker}

-- a segment that isn't listed was joined
all_joined : (from : Worker) (segment : PlacedEvents) (fault : Option NodeFault) → refused_for from segment fault ≡ [] → joined_for segment fault ≡ facts_of segment
all_joined from segment None e = refl
all_joined from segment (Some fault) e = absurd (no_element (refused_as from segment fault) [] e)

-- the facts of a segment are known
abbrev IsKnown : View → PlacedEvents → Type 0
IsKnown know segment = IsBelow (view_of (facts_of segment)) know

module _
    (associative : (a b c : View) → join (join a b) c ≡ join a (join b c))
    (unit : (a : View) → join a empty ≡ a)
    (above_one : (a b : View) → IsBelow a (join a b))
    (above_other : (a b : View) → IsBelow b (join a b))
    (least : (a b c : View) → IsBelow a c → IsBelow b c → IsBelow (join a b) c)
    (below : (a b : View) → IsBelow b a → join a b ≡ a)
    (union : (a b : Trace) → view_of (a ++ b) ≡ join (view_of a) (view_of b)) where
  below_both : (a b c : View) → IsBelow a b → IsBelow b c → IsBelow a c
  below_both a b c h h' =
      let e : join c a ≡ c = ap (λ (v : View). join v a) (sym (below c b h')) ∙ associative c b a ∙ ap (λ (v : View). join c v) (below b a h) ∙ below c b h' in
      subst (λ (v : View). IsBelow a v) e (above_other c a)

  -- what is known of two traces together is known of each
  known_first : (a b : Trace) (know : View) → IsBelow (view_of (a ++ b)) know → IsBelow (view_of a) know
  known_first a b know h = below_both (view_of a) (view_of (a ++ b)) know (subst (λ (v : View). IsBelow (view_of a) v) (sym (union a b)) (above_one (view_of a) (view_of b))) h

  known_rest : (a b : Trace) (know : View) → IsBelow (view_of (a ++ b)) know → IsBelow (view_of b) know
  known_rest a b know h = below_both (view_of b) (view_of (a ++ b)) know (subst (λ (v : View). IsBelow (view_of b) v) (sym (union a b)) (above_other (view_of a) (view_of b))) h

  -- Where no segment was refused, all that were taken are known.
  each_known : (taken : List Taken) (know : View) → flat_map refused_in taken ≡ [] → IsBelow (view_of (flat_map joined_in taken)) know
      → AllByRecursion (λ (t : Taken). IsKnown know t.segment) taken
  each_known [] know none h = tt
  each_known (t ∷ ts) know none h =
      let joined : joined_in t ≡ facts_of t.segment = all_joined t.from t.segment t.fault (nil_first (refused_in t) (flat_map refused_in ts) none) in (
        subst (λ (facts : Trace). IsBelow (view_of facts) know) joined (known_first (joined_in t) (flat_map joined_in ts) know h),
        each_known ts know (nil_rest (refused_in t) (flat_map refused_in ts) none) (known_rest (joined_in t) (flat_map joined_in ts) know h),
      )

  -- what is known of each of some segments is known of all together
  all_known : (segments : List PlacedEvents) (know : View) → AllByRecursion (IsKnown know) segments → IsBelow (view_of (flat_map facts_of segments)) know
  all_known [] know h = subst (λ (v : View). IsBelow empty v) (unit know) (above_other know empty)
  all_known (s ∷ ss) know h =
      subst (λ (v : View). IsBelow v know) (sym (union (facts_of s) (flat_map facts_of ss))) (least (view_of (facts_of s)) (view_of (flat_map facts_of ss)) know h.0 (all_known ss know h.1))

  worker_known : (know : View) (worker : Worker) (pieces : List TextPiece) (segments : List PlacedEvents) (faults : Faults) → Gave worker pieces segments faults → faults ≡ [] → AllByRecursion (IsKnown know) segments
      → All (KnowsPiece know) pieces
  worker_known know worker pieces segments faults gave none h =
      All-weaker (Found (IsKnown know)) (KnowsPiece know) (λ p f. (f.0, f.1, all_known f.0 know f.2)) pieces
      (All-from_recursion (Found (IsKnown know)) pieces (all_found (IsKnown know) worker pieces segments faults gave none h))

  -- A node knows its own pieces and what it was told besides, where its crew left no fault and no refused segment, and
  -- it has kept what it knew.
  pub knows_own : (layout : Parts) (load : Workload) (out : CrewOut) (told node : Held) → IsCrewOut layout load.first.items load.second.items out → out.faults.items ≡ [] → out.refused.items ≡ []
      → IsMore out.node told → told.know ≡ join out.node.know load.known → IsMore told node → KnowsOwn layout load node
  knows_own layout load out told node is whole joined learned tells more =
      let none : is.first_faults ++ is.second_faults ≡ [] = sym is.faults ∙ whole in
      let keeps : IsBelow (view_of (flat_map joined_in is.taken)) node.know = subst (λ (v : View). IsBelow v node.know) is.know (below_both out.node.know told.know node.know learned.keeps more.keeps) in
      let known = each_known is.taken node.know (sym is.refused ∙ joined) keeps in
      record {
        layout_is = more.layout_is ∙ (learned.layout_is ∙ is.layout_is);
        fresh = more.fresh;
        first = worker_known node.know First load.first.items (segments_by First is.taken) is.first_faults is.first_gave (nil_first is.first_faults is.second_faults none)
            (by_worker (IsKnown node.know) First is.taken known);
        second = worker_known node.know Second load.second.items (segments_by Second is.taken) is.second_faults is.second_gave (nil_rest is.first_faults is.second_faults none)
            (by_worker (IsKnown node.know) Second is.taken known);
        told = below_both load.known told.know node.know (subst (λ (v : View). IsBelow load.known v) (sym tells) (above_other out.node.know load.known)) more.keeps;
      }
