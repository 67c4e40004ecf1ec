-- What was taken grows by one item.
use Rattle.std.proofs.Common.{◌≡◌, ◌≢◌, ◌↔◌, ◌≤◌, ◌+◌, ℕ, zero, suc, false, ⊎_elim, Option, Some, None, List, [], ◌∷◌, ◌++◌, refl, sym, ap, ◌∙◌, subst, arith}
use Rattle.std.specs.List.{All, filter_map, flat_map}
use Rattle.std.specs.FinMap.{empty}
use Rattle.std.proofs.lemmas.Grind.{flat_map-append}
use Rattle.std.proofs.lemmas.List.{append-nil, map-append}
use Rattle.std.proofs.lemmas.List.Elements.{All-append, filter_map-append}
use Rattle.mpi_model.specs.Layouts.{Parts}
use Rattle.trace_know.specs.Segment.{PlacedEvents}
use Rattle.trace_know.specs.Trace.{Trace, facts_of, view_of}
use Rattle.trace_know.specs.View.{join}
use Rattle.trace_node.specs.Node.{Held, held}
use Rattle.std.proofs.lemmas.Bool.{cases_lt}
use Rattle.trace_node.specs.declared.fault.NodeFault.{NodeFault}
use Rattle.trace_node.specs.declared.fault.NodeFault.TheVariants.{Rank, Memory, Stale}
use Rattle.trace_crew.specs.declared.queue.item.WorkerPost.{WorkerPost}
use Rattle.trace_crew.specs.declared.queue.item.Post.TheVariants.{Segment, End}
use Rattle.trace_crew.specs.declared.owner.Refusal.{Refusal}
use Rattle.trace_crew.specs.Taking.{Handles, IsFair, IsFairFor, IsKept, Sorted, Taken, counted, ends_in, is_end, joined_for, joined_in, known_after, refused_in, sent, source, taken_as}

-- Nothing was taken, and nothing is known.
pub nothing_taken : (layout : Parts) (node : Held) (refused : List Refusal) → node ≡ held layout empty false → refused ≡ [] → Sorted layout [] node refused
nothing_taken layout node refused is none =
    ([], record { all = refl; fair = (λ k d lt. absurd (omega (arith, lt))); listed = none; layout_is = ap (λ n. n.layout) is; know = ap (λ n. n.know) is })

all_one : (P : Taken → Type 0) (t : Taken) → P t → All P (t ∷ [])
all_one P t h zero d lt = h
all_one P t h (suc k) d lt = absurd (omega (arith, lt))

-- what is known after a segment, as the view of a trace
known_grows : ((a b : Trace) → view_of (a ++ b) ≡ join (view_of a) (view_of b)) → (facts : Trace) (segment : PlacedEvents) (fault : Option NodeFault)
    → known_after (view_of facts) segment fault ≡ view_of (facts ++ joined_for segment fault)
known_grows union facts segment None = sym (union facts (facts_of segment))
known_grows union facts segment (Some fault) = ap view_of (sym (append-nil facts))

-- One segment more was joined or refused.
pub sorted_segment : ((a b : Trace) → view_of (a ++ b) ≡ join (view_of a) (view_of b)) → (item : WorkerPost) (segment : PlacedEvents) (old new : Held) (refused refusals : List Refusal)
    → item.post ≡ Segment segment → Handles item.from segment old refused new refusals → (layout : Parts) (items : List WorkerPost) → Sorted layout items old refused → Sorted layout (items ++ item ∷ []) new refusals
sorted_segment union item segment old new refused refusals is how layout items h =
    let t = taken_as item.from segment how.fault in
    let s = h.1 in
    let at : filter_map sent (item ∷ []) ≡ source t ∷ [] = ap (λ p. filter_map sent (record { from = item.from; post = p } ∷ [])) is in
    let fair : IsFair layout t = subst (λ (l : Parts). IsFairFor l segment.rank how.fault) s.layout_is how.fair in
    let facts = flat_map joined_in h.0 in (
      h.0 ++ t ∷ [],
      record {
        all = map-append source h.0 (t ∷ []) ∙ ap (λ l. l ++ source t ∷ []) s.all ∙ ap (λ l. filter_map sent items ++ l) (sym at) ∙ sym (filter_map-append sent items (item ∷ []));
        fair = All-append (IsFair layout) h.0 (t ∷ []) s.fair (all_one (IsFair layout) t fair);
        listed = how.listed ∙ ap (λ l. l ++ refused_in t) s.listed ∙ ap (λ l. flat_map refused_in h.0 ++ l) (sym (append-nil (refused_in t))) ∙ sym (flat_map-append refused_in h.0 (t ∷ []));
        layout_is = how.layout ∙ s.layout_is;
        know = how.know
            ∙ ap (λ k. known_after k segment how.fault) s.know
            ∙ known_grows union facts segment how.fault
            ∙ ap view_of (ap (λ l. facts ++ l) (sym (append-nil (joined_in t))) ∙ sym (flat_map-append joined_in h.0 (t ∷ [])));
      },
    )

-- The same, where what was made of it stayed as it was since.
pub sorted_next : ((a b : Trace) → view_of (a ++ b) ≡ join (view_of a) (view_of b)) → (item : WorkerPost) (segment : PlacedEvents) (old new later : Held) (refused refusals still : List Refusal)
    → item.post ≡ Segment segment → Handles item.from segment old refused new refusals → later ≡ new → still ≡ refusals → (layout : Parts) (items : List WorkerPost) → Sorted layout items old refused
    → Sorted layout (items ++ item ∷ []) later still
sorted_next union item segment old new later refused refusals still is how same same' layout items h =
    subst (λ (p : Held × List Refusal). Sorted layout (items ++ item ∷ []) p.0 p.1) (λ i. (sym same i, sym same' i)) (sorted_segment union item segment old new refused refusals is how layout items h)

-- A node is kept as it is.
pub kept_as_it_is : (node : Held) → IsKept node node
kept_as_it_is node = record { layout = refl; know = refl }

-- The same was taken, and the node is kept.
pub sorted_kept : (layout : Parts) (items : List WorkerPost) (node later : Held) (refused still : List Refusal) → IsKept node later → still ≡ refused → Sorted layout items node refused → Sorted layout items later still
sorted_kept layout items node later refused still kept same h =
    let s = h.1 in (h.0, record { all = s.all; fair = s.fair; listed = same ∙ s.listed; layout_is = kept.layout ∙ s.layout_is; know = kept.know ∙ s.know })

-- A node refuses a segment for its rank, or else for want of memory.
pub fault_is_fair : (layout : Parts) (fault : NodeFault) (rank : ℕ) → (fault ≢ Stale) → (fault ≡ Rank) ↔ (layout.ranks ≤ rank) → IsFairFor layout rank (Some fault)
fault_is_fair layout Rank rank whole only = only.0 refl
fault_is_fair layout Memory rank whole only = ⊎_elim (λ lt. lt) (λ (le : layout.ranks ≤ rank). absurd (let e = only.1 le in cc)) (cases_lt rank layout.ranks)
fault_is_fair layout Stale rank whole only = absurd (whole refl)

-- one item more that ends a worker's posts, or doesn't
pub ends_more : (items : List WorkerPost) (item : WorkerPost) → ends_in (items ++ item ∷ []) ≡ ends_in items + counted (is_end item)
ends_more [] item = omega arith
ends_more (i ∷ is) item = let h = ends_more is item in omega (arith, h)

-- An end is no segment.
pub sorted_end : (item : WorkerPost) (node : Held) (refused : List Refusal) → item.post ≡ End → (layout : Parts) (items : List WorkerPost) → Sorted layout items node refused → Sorted layout (items ++ item ∷ []) node refused
sorted_end item node refused is layout items h =
    let s = h.1 in
    let at : filter_map sent (item ∷ []) ≡ [] = ap (λ p. filter_map sent (record { from = item.from; post = p } ∷ [])) is in (
      h.0,
      record {
        all = s.all ∙ sym (append-nil (filter_map sent items)) ∙ ap (λ l. filter_map sent items ++ l) (sym at) ∙ sym (filter_map-append sent items (item ∷ []));
        fair = s.fair;
        listed = s.listed;
        layout_is = s.layout_is;
        know = s.know;
      },
    )
