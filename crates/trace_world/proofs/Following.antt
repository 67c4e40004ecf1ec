-- Each step of a world follows the step of the schedule.
use Rattle.std.proofs.Common.{◌≡◌, ◌<◌, ℕ, ◌+◌, true, false, Some, Ok, Err, OnOk, IfErr, Result, zero, suc, subst, List, [], ◌∷◌, ◌++◌, length, map, drop, take, get_or, set, refl, sym, ap, ◌∙◌, arith}
use Rattle.std.specs.Prelude.{slice_set, slice_index_or}
use Rattle.std.specs.List.{flat_map}
use Rattle.std.specs.FinMap.{empty, entries}
use Rattle.std.proofs.lemmas.Grind.{flat_map-append}
use Rattle.std.proofs.lemmas.List.{map-set, map-append, length-map}
use Rattle.std.proofs.lemmas.List as lists
use Rattle.std.proofs.lemmas.Option.{slice_get-get_or}
use Rattle.std.proofs.Math.ListN.{get_or-map}
use Rattle.trace_know.specs.Segment.{PlacedEvents}
use Rattle.trace_know.specs.Trace.{Trace, facts_of, view_of}
use Rattle.trace_know.specs.View.{View, join}
use Rattle.trace_node.specs.Node.{Held}
use Rattle.trace_wire.specs.Frames.{frame_of, HasFrame}
use Rattle.trace_world.specs.Schedule.{State, after, after_all, at}
use Rattle.trace_world.specs.Shows.{knowledge_of, knows, AllFramed, Shows, Follows, WorldState, world_state}
use Rattle.trace_world.specs.Moves.{joined}
use Rattle.trace_world.specs.Refusals.{is_done, done_at, ended_at, refusal, IsOutcome, SameNodes, StopsAt}
use Rattle.trace_world.specs.declared.step.WorldFault.{WorldFault}
use Rattle.trace_world.specs.declared.step.WorldFault.TheVariants.{NoNode, NoMail, EmptyInbox, Rank, FrameLength, Stale, NodeCount, Memory}
use Rattle.trace_world.specs.declared.step.Step.{Step}
use Rattle.trace_world.specs.declared.step.Step.TheVariants.{Post, Take, Ship, Deliver, Restart}
use Rattle.mpi_model.specs.Layouts.{Parts}

-- the view of a union is the join of the views, as `view_laws` tells
abbrev pub UnionLaw : Type 0
UnionLaw = (a b : Trace) → view_of (a ++ b) ≡ join (view_of a) (view_of b)

-- what segments tell with more of them
pub knowledge-append : UnionLaw → (xs ys : List PlacedEvents) → knowledge_of (xs ++ ys) ≡ join (knowledge_of xs) (knowledge_of ys)
knowledge-append union xs ys = ap view_of (flat_map-append facts_of xs ys) ∙ union (flat_map facts_of xs) (flat_map facts_of ys)

-- one segment tells its facts
pub knowledge-one : (segment : PlacedEvents) → knowledge_of (segment ∷ []) ≡ view_of (facts_of segment)
knowledge-one segment = ap view_of (lists.append-nil (facts_of segment))

-- where one node joins what some segments tell, they have reached it
pub reaches : UnionLaw → (known known' : List View) (reached : List (List PlacedEvents)) (node : ℕ) (more : List PlacedEvents) → known ≡ map knowledge_of reached → known' ≡ joined known node (knowledge_of more)
    → known' ≡ map knowledge_of (slice_set reached node (slice_index_or reached node [] ++ more))
reaches union known known' reached node more e f =
    f
    ∙ ap (λ k. joined k node (knowledge_of more)) e
    ∙ ap (set (map knowledge_of reached) node) (ap (λ k. join k (knowledge_of more)) (get_or-map knowledge_of reached node []) ∙ sym (knowledge-append union (get_or reached node []) more))
    ∙ sym (map-set knowledge_of reached node (get_or reached node [] ++ more))

pub posts : (layout : Parts) (nodes : List Held) (inboxes inboxes' : List (List PlacedEvents)) (mails : List (List ℕ)) (worker node : ℕ) (segment : PlacedEvents) → inboxes' ≡ slice_set inboxes node (at inboxes node ++ segment ∷ [])
    → Follows (world_state layout nodes inboxes mails) (Post worker node segment ∷ []) (world_state layout nodes inboxes' mails)
posts layout nodes inboxes inboxes' mails worker node segment e s h =
    record { knowledge = h.knowledge; inboxes = e ∙ ap (λ l. slice_set l node (slice_index_or l node [] ++ segment ∷ [])) h.inboxes; mails = h.mails; framed = h.framed }

pub takes : UnionLaw → (layout : Parts) (nodes nodes' : List Held) (inboxes inboxes' : List (List PlacedEvents)) (mails : List (List ℕ)) (node : ℕ) (segment : PlacedEvents) → at inboxes node ≡ segment ∷ drop 1 (at inboxes node)
    → inboxes' ≡ slice_set inboxes node (drop 1 (at inboxes node)) → knows nodes' ≡ joined (knows nodes) node (view_of (facts_of segment))
    → Follows (world_state layout nodes inboxes mails) (Take node ∷ []) (world_state layout nodes' inboxes' mails)
takes union layout nodes nodes' inboxes inboxes' mails node segment front e f s h =
    let one : take 1 (at s.inboxes node) ≡ segment ∷ [] = ap (λ l. take 1 (slice_index_or l node [])) (sym h.inboxes) ∙ ap (take 1) front in
    record {
      knowledge = reaches union (knows nodes) (knows nodes') s.reached node (segment ∷ []) h.knowledge (f ∙ ap (joined (knows nodes) node) (sym (knowledge-one segment))) ∙ ap (λ m. map knowledge_of (slice_set s.reached node (at s.reached node ++ m))) (sym one);
      inboxes = e ∙ ap (λ l. slice_set l node (drop 1 (slice_index_or l node []))) h.inboxes;
      mails = h.mails;
      framed = h.framed;
    }

-- a mail more that has a frame
framed-append : (mails : List (List PlacedEvents)) (mail : List PlacedEvents) → AllFramed mails → HasFrame (entries (knowledge_of mail)) → AllFramed (mails ++ mail ∷ [])
framed-append [] mail h last = (last, tt)
framed-append (m ∷ mails) mail h last = (h.0, framed-append mails mail h.1 last)

-- each of the mails has a frame
framed-at : (mails : List (List PlacedEvents)) (i : ℕ) → AllFramed mails → i < length mails → HasFrame (entries (knowledge_of (at mails i)))
framed-at [] i h lt = absurd (omega (arith, lt))
framed-at (m ∷ mails) zero h lt = h.0
framed-at (m ∷ mails) (suc i) h lt = framed-at mails i h.1 (omega (arith, lt))

pub ships : (layout : Parts) (nodes : List Held) (inboxes : List (List PlacedEvents)) (mails mails' : List (List ℕ)) (node : ℕ) (know : View) → know ≡ slice_index_or (knows nodes) node empty → HasFrame (entries know) → mails' ≡ mails ++ frame_of know ∷ []
    → Follows (world_state layout nodes inboxes mails) (Ship node ∷ []) (world_state layout nodes inboxes mails')
ships layout nodes inboxes mails mails' node know e framed f s h =
    let same : know ≡ knowledge_of (at s.reached node) = e ∙ ap (λ l. slice_index_or l node empty) h.knowledge ∙ get_or-map knowledge_of s.reached node [] in
    record {
      knowledge = h.knowledge;
      inboxes = h.inboxes;
      mails =
          f
          ∙ ap (λ l. l ++ frame_of know ∷ []) h.mails
          ∙ ap (λ k. map (λ m. frame_of (knowledge_of m)) s.mails ++ frame_of k ∷ []) same
          ∙ sym (map-append (λ (m : List PlacedEvents). frame_of (knowledge_of m)) s.mails (at s.reached node ∷ []));
      framed = framed-append s.mails (at s.reached node) h.framed (subst (λ v. HasFrame (entries v)) same framed);
    }

-- a frame is that of one view
abbrev pub OneFrameLaw : Type 0
OneFrameLaw = (a b : View) → HasFrame (entries a) → HasFrame (entries b) → frame_of a ≡ frame_of b → a ≡ b

pub delivers : UnionLaw → OneFrameLaw → (layout : Parts) (nodes nodes' : List Held) (inboxes : List (List PlacedEvents)) (mails : List (List ℕ)) (mail node : ℕ) (more : View) → mail < length mails → slice_index_or mails mail [] ≡ frame_of more → HasFrame (entries more)
    → knows nodes' ≡ joined (knows nodes) node more → Follows (world_state layout nodes inboxes mails) (Deliver mail node ∷ []) (world_state layout nodes' inboxes mails)
delivers union one layout nodes nodes' inboxes mails mail node more lt is framed f s h =
    let f' : List PlacedEvents → List ℕ = λ m. frame_of (knowledge_of m) in
    let n : mail < length s.mails = omega (arith, lt, ap length h.mails, length-map s.mails f') in
    let same : frame_of more ≡ frame_of (knowledge_of (at s.mails mail)) = sym is ∙ ap (λ l. slice_index_or l mail []) h.mails ∙ lists.get_or-map f' s.mails mail [] [] n in
    let e : more ≡ knowledge_of (at s.mails mail) = one more (knowledge_of (at s.mails mail)) framed (framed-at s.mails mail h.framed n) same in
    record { knowledge = reaches union (knows nodes) (knows nodes') s.reached node (at s.mails mail) h.knowledge (f ∙ ap (joined (knows nodes) node) e); inboxes = h.inboxes; mails = h.mails; framed = h.framed }

pub restarts : (layout : Parts) (nodes nodes' : List Held) (inboxes inboxes' : List (List PlacedEvents)) (mails : List (List ℕ)) (node : ℕ) → knows nodes' ≡ slice_set (knows nodes) node empty → inboxes' ≡ slice_set inboxes node []
    → Follows (world_state layout nodes inboxes mails) (Restart node ∷ []) (world_state layout nodes' inboxes' mails)
restarts layout nodes nodes' inboxes inboxes' mails node e f s h =
    record {
      knowledge = e ∙ ap (λ l. set l node empty) h.knowledge ∙ sym (map-set knowledge_of s.reached node []);
      inboxes = f ∙ ap (λ l. slice_set l node []) h.inboxes;
      mails = h.mails;
      framed = h.framed;
    }

-- a world whose nodes know the same shows the same
pub still : (layout : Parts) (nodes nodes' : List Held) (inboxes : List (List PlacedEvents)) (mails : List (List ℕ)) → knows nodes' ≡ knows nodes → Follows (world_state layout nodes inboxes mails) [] (world_state layout nodes' inboxes mails)
still layout nodes nodes' inboxes mails e s h = record { knowledge = e ∙ h.knowledge; inboxes = h.inboxes; mails = h.mails; framed = h.framed }

-- a mail that was added is the last one
pub added : (mails mails' : List (List ℕ)) (mail : List ℕ) (know : View) (result : Result (Unit {0}) WorldFault) → mail ≡ frame_of know → OnOk result (mails' ≡ mails ++ mail ∷ []) → IfErr result (λ fault. (fault ≡ Memory) × (mails' ≡ mails)) → is_done result ≡ true → mails' ≡ mails ++ frame_of know ∷ []
added mails mails' mail know (Ok x) is e f went = e ∙ ap (λ m. mails ++ m ∷ []) is
added mails mails' mail know (Err fault) is e f went = let x : false ≡ true = subst (λ x. is_done (Err x) ≡ true) f.0 went in absurd (cc)

-- the nodes are as many as at first
pub same_then : (a b c : WorldState) → SameNodes a b → SameNodes b c → SameNodes a c
same_then a b c f g = record { layout = g.layout ∙ f.layout; count = g.count ∙ f.count }

after_all-append : (xs : List Step) (x : Step) (s : State) → after_all (xs ++ x ∷ []) s ≡ after x (after_all xs s)
after_all-append [] x s = refl
after_all-append (y ∷ ys) x s = after_all-append ys x (after y s)

-- one step more
pub goes_on : (old mid new : WorldState) (steps : List Step) (k : ℕ) (x : Step) → k < length steps → x ≡ get_or steps k x → Follows old (take k steps) mid → Follows mid (x ∷ []) new → Follows old (take (k + 1) steps) new
goes_on old mid new steps k x lt is so_far next s h =
    let e : take (k + 1) steps ≡ take k steps ++ x ∷ [] = lists.take_more steps k x lt ∙ ap (λ y. take k steps ++ y ∷ []) (sym is) in
    subst (Shows new) (sym (ap (λ l. after_all l s) e ∙ after_all-append (take k steps) x s)) (next (after_all (take k steps) s) (so_far s h))

-- where a run ends
pub stops : (old mid new : WorldState) (steps : List Step) (k : ℕ) (x : Step) (fault : WorldFault) → k < length steps → x ≡ get_or steps k x → Follows old (take k steps) mid
    → (is_done (Err fault) ≡ true → Follows mid (x ∷ []) new) → (is_done (Err fault) ≡ false → new ≡ mid) → Follows old (take (done_at k fault) steps) new
stops old mid new steps k x Stale lt is so_far went kept = goes_on old mid new steps k x lt is so_far (went refl)
stops old mid new steps k x NoNode lt is so_far went kept = subst (Follows old (take k steps)) (sym (kept refl)) so_far
stops old mid new steps k x NoMail lt is so_far went kept = subst (Follows old (take k steps)) (sym (kept refl)) so_far
stops old mid new steps k x EmptyInbox lt is so_far went kept = subst (Follows old (take k steps)) (sym (kept refl)) so_far
stops old mid new steps k x Rank lt is so_far went kept = subst (Follows old (take k steps)) (sym (kept refl)) so_far
stops old mid new steps k x FrameLength lt is so_far went kept = subst (Follows old (take k steps)) (sym (kept refl)) so_far
stops old mid new steps k x NodeCount lt is so_far went kept = subst (Follows old (take k steps)) (sym (kept refl)) so_far
stops old mid new steps k x Memory lt is so_far went kept = subst (Follows old (take k steps)) (sym (kept refl)) so_far

-- the step at which a run ends
pub caused : (mid new : WorldState) (steps : List Step) (k : ℕ) (x : Step) (fault : WorldFault) → k < length steps → x ≡ get_or steps k x → IsOutcome (refusal mid x) (Err fault) → (is_done (Err fault) ≡ false → new ≡ mid) → StopsAt new steps (ended_at k fault)
caused mid new steps k x fault lt is outcome kept =
    (x, slice_get-get_or steps k x lt ∙ ap Some (sym is), λ undone. subst (λ w. IsOutcome (refusal w x) (Err fault)) (sym (kept undone)) outcome)
