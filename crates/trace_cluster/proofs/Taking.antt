-- What a crew took: where it refused nothing, and where it refused a segment.
use Rattle.std.proofs.Common.{◌≡◌, ◌<◌, Bool, true, false, cond, List, [], ◌∷◌, ◌++◌, map, Option, Some, None, sym, subst}
use Rattle.std.specs.List.{AllByRecursion, Contains, filter, flat_map}
use Rattle.std.proofs.lemmas.List.Elements.{Contains-append_right}
use Rattle.mpi_model.specs.Layouts.{Parts}
use Rattle.trace_know.specs.Segment.{PlacedEvents}
use Rattle.trace_node.specs.declared.fault.NodeFault.{NodeFault}
use Rattle.trace_crew.specs.declared.queue.item.Worker.{Worker}
use Rattle.trace_crew.specs.declared.queue.item.Worker.TheVariants.{First, Second}
use Rattle.trace_crew.specs.declared.owner.Refusal.{Refusal}
use Rattle.trace_crew.specs.Views.{is_from}
use Rattle.trace_crew.specs.Crewed.{segments_by}
use Rattle.trace_crew.specs.Taking.{IsFair, IsFairFor, Taken, refused_as, refused_for, refused_in, taken_as}
use Rattle.trace_cluster.proofs.Lists.{contains_first, nil_first, nil_rest, no_element, same_first}

-- the segments of what was taken
abbrev segments : List Taken → List PlacedEvents
segments taken = map (λ t. t.segment) taken

-- ---- of one worker

one_more : (P : PlacedEvents → Type 0) (b : Bool) (t : Taken) (ts : List Taken) → P t.segment → AllByRecursion P (segments ts) → AllByRecursion P (segments (cond b (t ∷ ts) ts))
one_more P true t ts h hs = (h, hs)
one_more P false t ts h hs = hs

-- What holds of each segment that was taken holds of those of each worker.
pub by_worker : (P : PlacedEvents → Type 0) (w : Worker) (taken : List Taken) → AllByRecursion (λ (t : Taken). P t.segment) taken → AllByRecursion P (segments_by w taken)
by_worker P w [] h = tt
by_worker P w (t ∷ ts) h = one_more P (is_from w t.from) t (filter (λ (u : Taken). is_from w u.from) ts) h.0 (by_worker P w ts h.1)

-- ---- where none was refused

in_ranks : (layout : Parts) (from : Worker) (segment : PlacedEvents) (fault : Option NodeFault) → IsFairFor layout segment.rank fault → refused_for from segment fault ≡ [] → segment.rank < layout.ranks
in_ranks layout from segment None fair e = fair
in_ranks layout from segment (Some fault) fair e = absurd (no_element (refused_as from segment fault) [] e)

-- Where no segment was refused, all are of the layout's ranks.
pub all_in_ranks : (layout : Parts) (taken : List Taken) → AllByRecursion (IsFair layout) taken → flat_map refused_in taken ≡ [] → AllByRecursion (λ (t : Taken). t.segment.rank < layout.ranks) taken
all_in_ranks layout [] fair e = tt
all_in_ranks layout (t ∷ ts) fair e =
    (in_ranks layout t.from t.segment t.fault fair.0 (nil_first (refused_in t) (flat_map refused_in ts) e), all_in_ranks layout ts fair.1 (nil_rest (refused_in t) (flat_map refused_in ts) e))

-- ---- where one was refused

contains_more : (b : Bool) (t : Taken) (ts : List Taken) (s : PlacedEvents) → Contains (segments ts) s → Contains (segments (cond b (t ∷ ts) ts)) s
contains_more true t ts s h = Contains-append_right (t.segment ∷ []) (segments ts) s h
contains_more false t ts s h = h

-- of these there is one that was refused for this reason
abbrev pub IsRefusedAmong : Parts → List Taken → NodeFault → Type 0
IsRefusedAmong layout taken fault = (w : Worker) × (s : PlacedEvents) × Contains (segments_by w taken) s × IsFairFor layout s.rank (Some fault)

this_one : (layout : Parts) (from : Worker) (segment : PlacedEvents) (fault : NodeFault) (ts : List Taken) → IsFairFor layout segment.rank (Some fault) → IsRefusedAmong layout (taken_as from segment (Some fault) ∷ ts) fault
this_one layout First segment fault ts fair = (First, segment, contains_first segment (segments_by First ts), fair)
this_one layout Second segment fault ts fair = (Second, segment, contains_first segment (segments_by Second ts), fair)

this_or_later : (layout : Parts) (from : Worker) (segment : PlacedEvents) (fault : Option NodeFault) (ts : List Taken) (r : Refusal) (rest : List Refusal)
    → IsFairFor layout segment.rank fault → refused_for from segment fault ++ flat_map refused_in ts ≡ r ∷ rest → (flat_map refused_in ts ≡ r ∷ rest → IsRefusedAmong layout ts r.fault)
    → IsRefusedAmong layout (taken_as from segment fault ∷ ts) r.fault
this_or_later layout from segment None ts r rest fair e later =
    let h = later e in
    (h.0, h.1, contains_more (is_from h.0 from) (taken_as from segment None) (filter (λ (u : Taken). is_from h.0 u.from) ts) h.1 h.2, h.3)
this_or_later layout from segment (Some fault) ts r rest fair e later =
    subst (λ (q : Refusal). IsRefusedAmong layout (taken_as from segment (Some fault) ∷ ts) q.fault) (same_first (refused_as from segment fault) r (flat_map refused_in ts) rest e) (this_one layout from segment fault ts fair)

-- Of the segments that were taken there is one that was refused as the first of the list is.
pub first_refused : (layout : Parts) (taken : List Taken) (r : Refusal) (rest : List Refusal) → AllByRecursion (IsFair layout) taken → flat_map refused_in taken ≡ r ∷ rest → IsRefusedAmong layout taken r.fault
first_refused layout [] r rest fair e = absurd (no_element r rest (sym e))
first_refused layout (t ∷ ts) r rest fair e = this_or_later layout t.from t.segment t.fault ts r rest fair.0 e (first_refused layout ts r rest fair.1)
