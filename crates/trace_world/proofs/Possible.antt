-- The steps that a world has done could be done.
use Rattle.std.proofs.Common.{◌≡◌, ◌<◌, ℕ, ◌+◌, Bool, true, false, Option, Some, None, Ok, Err, List, [], ◌∷◌, ◌++◌, length, map, take, get_or, refl, sym, ap, ◌∙◌, subst}
use Rattle.std.specs.Prelude.{if◌then◌else◌, nat_lt, slice_index_or}
use Rattle.std.specs.FinMap.{empty, entries}
use Rattle.std.proofs.lemmas.List.{length-map, take_more}
use Rattle.mpi_model.specs.Layouts.{Parts}
use Rattle.trace_know.specs.Segment.{PlacedEvents}
use Rattle.trace_node.specs.Node.{Held, held}
use Rattle.trace_know.specs.View.{View}
use Rattle.trace_wire.specs.Frames.{longest, payload}
use Rattle.trace_world.specs.declared.step.Step.{Step}
use Rattle.trace_world.specs.declared.step.Step.TheVariants.{Post, Take, Ship, Deliver, Restart}
use Rattle.trace_world.specs.declared.step.WorldFault.{WorldFault}
use Rattle.trace_world.specs.declared.step.WorldFault.TheVariants.{NoNode, NoMail, EmptyInbox, Rank, FrameLength, Stale, NodeCount, Memory}
use Rattle.trace_world.specs.Possible.{Allows, CanDo, world_in}
use Rattle.trace_world.specs.Refusals.{IsOutcome, SameNodes, done_at, no_front, refusal, refusal_there, too_long}
use Rattle.trace_world.specs.Schedule.{State, after, after_all, at}
use Rattle.trace_world.specs.Shows.{Follows, Shows, WorldState, knowledge_of, knows}

-- ---- a world that shows a state refuses what the world in that state does

-- what nodes know that were made of segments
made_knows : (layout : Parts) (reached : List (List PlacedEvents)) → knows (map (λ segments. held layout (knowledge_of segments) false) reached) ≡ map knowledge_of reached
made_knows layout [] = refl
made_knows layout (segments ∷ reached) = ap (λ (l : List View). knowledge_of segments ∷ l) (made_knows layout reached)

-- a step of a node that is there, or is not
abbrev refused_by : ℕ → ℕ → Option WorldFault → Option WorldFault
refused_by node count there = if nat_lt node count then there else Some NoNode

-- what is asked of a world before a step is done is as in the state that it shows
there_alike : (w : WorldState) (s : State) (x : Step) → Shows w s → refusal_there (world_in w.layout s) x ≡ refusal_there w x
there_alike w s (Post worker node segment) h = refl
there_alike w s (Take node) h = ap (λ (l : List (List PlacedEvents)). no_front (at l node)) (sym h.inboxes)
there_alike w s (Ship node) h = ap (λ (l : List View). too_long (slice_index_or l node empty)) (made_knows w.layout s.reached ∙ sym h.knowledge)
there_alike w s (Deliver mail node) h = ap (λ (l : List (List ℕ)). if nat_lt mail (length l) then None else Some NoMail) (sym h.mails)
there_alike w s (Restart node) h = refl

-- as many nodes
count_alike : (w : WorldState) (s : State) → Shows w s → length (world_in w.layout s).nodes ≡ length w.nodes
count_alike w s h =
    length-map s.reached (λ segments. held w.layout (knowledge_of segments) false) ∙ sym (length-map s.reached knowledge_of)
    ∙ ap (λ (l : List View). length l) (sym h.knowledge) ∙ length-map w.nodes (λ (n : Held). n.know)

by_parts : (w : WorldState) (x : Step) (node : ℕ) → refusal w x ≡ refused_by node (length w.nodes) (refusal_there w x) → (s : State) → refusal (world_in w.layout s) x ≡ refused_by node (length (world_in w.layout s).nodes) (refusal_there (world_in w.layout s) x)
    → Shows w s → refusal (world_in w.layout s) x ≡ refusal w x
by_parts w x node is s also h =
    also ∙ ap (λ (n : ℕ). refused_by node n (refusal_there (world_in w.layout s) x)) (count_alike w s h)
    ∙ ap (λ (there : Option WorldFault). refused_by node (length w.nodes) there) (there_alike w s x h) ∙ sym is

pub alike : (w : WorldState) (s : State) (x : Step) → Shows w s → refusal (world_in w.layout s) x ≡ refusal w x
alike w s (Post worker node segment) h = by_parts w (Post worker node segment) node refl s refl h
alike w s (Take node) h = by_parts w (Take node) node refl s refl h
alike w s (Ship node) h = by_parts w (Ship node) node refl s refl h
alike w s (Deliver mail node) h = by_parts w (Deliver mail node) node refl s refl h
alike w s (Restart node) h = by_parts w (Restart node) node refl s refl h

-- ---- a step that was done is refused for nothing

either : (P : Option WorldFault → Type 0) (b : Bool) (x y : Option WorldFault) → P x → P y → P (if b then x else y)
either P true x y px py = px
either P false x y px py = py

-- no refusal is for want of an answer
abbrev NotStale : Option WorldFault → Type 0
NotStale found = found ≡ Some Stale → ⊥

front_not_stale : (segments : List PlacedEvents) → NotStale (no_front segments)
front_not_stale [] = λ e. cc
front_not_stale (segment ∷ segments) = λ e. cc

there_not_stale : (w : WorldState) (x : Step) → NotStale (refusal_there w x)
there_not_stale w (Post worker node segment) = either NotStale (nat_lt segment.rank w.layout.ranks) None (Some Rank) (λ e. cc) (λ e. cc)
there_not_stale w (Take node) = front_not_stale (at w.inboxes node)
there_not_stale w (Ship node) = either NotStale (nat_lt longest (length (payload (entries (slice_index_or (knows w.nodes) node empty))))) (Some FrameLength) None (λ e. cc) (λ e. cc)
there_not_stale w (Deliver mail node) = either NotStale (nat_lt mail (length w.mails)) None (Some NoMail) (λ e. cc) (λ e. cc)
there_not_stale w (Restart node) = λ e. cc

not_stale : (w : WorldState) (x : Step) → NotStale (refusal w x)
not_stale w (Post worker node segment) = either NotStale (nat_lt node (length w.nodes)) _ (Some NoNode) (there_not_stale w (Post worker node segment)) (λ e. cc)
not_stale w (Take node) = either NotStale (nat_lt node (length w.nodes)) _ (Some NoNode) (there_not_stale w (Take node)) (λ e. cc)
not_stale w (Ship node) = either NotStale (nat_lt node (length w.nodes)) _ (Some NoNode) (there_not_stale w (Ship node)) (λ e. cc)
not_stale w (Deliver mail node) = either NotStale (nat_lt node (length w.nodes)) _ (Some NoNode) (there_not_stale w (Deliver mail node)) (λ e. cc)
not_stale w (Restart node) = either NotStale (nat_lt node (length w.nodes)) _ (Some NoNode) (there_not_stale w (Restart node)) (λ e. cc)

-- an accepted step
accepted : (found : Option WorldFault) (x : Unit {0}) → IsOutcome found (Ok x) → found ≡ None
accepted None x h = refl
accepted (Some fault) x h = cc

-- a step that left its node without an answer
answerless : (found : Option WorldFault) → NotStale found → IsOutcome found (Err Stale) → found ≡ None
answerless None not h = refl
answerless (Some fault) not h = absurd (not (cc h))

-- ---- the steps of a run

can-append : (layout : Parts) (steps : List Step) (x : Step) (s : State) → CanDo layout s steps → refusal (world_in layout (after_all steps s)) x ≡ None → CanDo layout s (steps ++ x ∷ [])
can-append layout [] x s h e = (e, tt)
can-append layout (y ∷ steps) x s h e = (h.0, can-append layout steps x (after y s) h.1 e)

-- one step more, which nothing refuses
could_more : (old mid : WorldState) (steps : List Step) (k : ℕ) (x : Step) → k < length steps → x ≡ get_or steps k x → Follows old (take k steps) mid → SameNodes old mid → Allows old (take k steps)
    → refusal mid x ≡ None → Allows old (take (k + 1) steps)
could_more old mid steps k x lt is so_far same could none s h =
    let e : take (k + 1) steps ≡ take k steps ++ x ∷ [] = take_more steps k x lt ∙ ap (λ y. take k steps ++ y ∷ []) (sym is) in
    let s' = after_all (take k steps) s in
    let free : refusal (world_in old.layout s') x ≡ None = ap (λ (l : Parts). refusal (world_in l s') x) (sym same.layout) ∙ alike mid s' x (so_far s h) ∙ none in
    subst (CanDo old.layout s) (sym e) (can-append old.layout (take k steps) x s (could s h) free)

-- an accepted step
pub could_go_on : (old mid : WorldState) (steps : List Step) (k : ℕ) (x : Step) (y : Unit {0}) → k < length steps → x ≡ get_or steps k x → Follows old (take k steps) mid → SameNodes old mid → Allows old (take k steps)
    → IsOutcome (refusal mid x) (Ok y) → Allows old (take (k + 1) steps)
could_go_on old mid steps k x y lt is so_far same could outcome = could_more old mid steps k x lt is so_far same could (accepted (refusal mid x) y outcome)

-- where a run ends, the steps that were done could be done
pub could_stop : (old mid : WorldState) (steps : List Step) (k : ℕ) (x : Step) (fault : WorldFault) → k < length steps → x ≡ get_or steps k x → Follows old (take k steps) mid → SameNodes old mid
    → Allows old (take k steps) → IsOutcome (refusal mid x) (Err fault) → Allows old (take (done_at k fault) steps)
could_stop old mid steps k x Stale lt is so_far same could outcome = could_more old mid steps k x lt is so_far same could (answerless (refusal mid x) (not_stale mid x) outcome)
could_stop old mid steps k x NoNode lt is so_far same could outcome = could
could_stop old mid steps k x NoMail lt is so_far same could outcome = could
could_stop old mid steps k x EmptyInbox lt is so_far same could outcome = could
could_stop old mid steps k x Rank lt is so_far same could outcome = could
could_stop old mid steps k x FrameLength lt is so_far same could outcome = could
could_stop old mid steps k x NodeCount lt is so_far same could outcome = could
could_stop old mid steps k x Memory lt is so_far same could outcome = could
