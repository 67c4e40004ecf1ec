-- What a run of a new world leaves, and why one of its steps is refused.
use Rattle.std.proofs.Common.{◌≡◌, ◌∙◌, ◌<◌, ◌≤◌, ℕ, List, Option, Some, None, Err, Bool, false, ap, sym, refl, subst, length, take}
use Rattle.std.specs.Prelude.{replicate}
use Rattle.std.proofs.lemmas.List.{length-map, length-replicate}
use Rattle.mpi_model.specs.Layouts.{Parts}
use Rattle.trace_node.specs.Node.{Held}
use Rattle.trace_world.specs.Possible.{Allows, CanDo, world_in}
use Rattle.trace_world.specs.Refusals.{IsCountFault, IsOutcome, NoneStaler, SameNodes, StopsAt, done_at, ended_at, is_done, refusal, stale}
use Rattle.trace_world.specs.Schedule.{State, after_all, opening}
use Rattle.trace_world.specs.Shows.{Follows, Shows, WorldState, most_nodes}
use Rattle.trace_world.specs.Worlds.{IsWorld}
use Rattle.trace_world.specs.declared.step.Step.{Step}
use Rattle.trace_world.specs.declared.step.WorldFault.{WorldFault}
use Rattle.trace_world.specs.declared.step.WorldFault.TheVariants.{NoNode, NoMail, EmptyInbox, Rank, FrameLength, Stale, NodeCount, Memory}
use Rattle.command_runs.specs.Replays.{CanReplay, RefusesStep, RefusesSteps, nodes_after, stop_of}
use Rattle.command_runs.proofs.Nodes.{all_held, still_fresh}

-- A new world is refused for its number of nodes, or for want of memory.
pub count_or_memory : (nodes : ℕ) (fault : WorldFault) → IsCountFault nodes fault → (fault ≡ NodeCount → ⊥) → (fault ≡ Memory → ⊥) → ⊥
count_or_memory nodes NodeCount h count memory = count refl
count_or_memory nodes Memory h count memory = memory refl
count_or_memory nodes NoNode h count memory = h
count_or_memory nodes NoMail h count memory = h
count_or_memory nodes EmptyInbox h count memory = h
count_or_memory nodes Rank h count memory = h
count_or_memory nodes FrameLength h count memory = h
count_or_memory nodes Stale h count memory = h

-- a new world, before any step
pub record IsNew (l : Parts) (nodes : ℕ) (w : WorldState) : Type 0 where
  pub shows : Shows w (opening nodes)
  pub layout : w.layout ≡ l
  pub fresh : stale w.nodes ≡ replicate nodes false

count_of : (l : Parts) (nodes : ℕ) (w : WorldState) → IsNew l nodes w → length w.nodes ≡ nodes
count_of l nodes w new = sym (length-map w.nodes (λ (n : Held). n.is_stale)) ∙ ap (λ (flags : List Bool). length flags) new.fresh ∙ length-replicate nodes false

-- a world of so many nodes that could do these steps
replayed : (l : Parts) (nodes : ℕ) (steps : List Step) (old new : WorldState) → IsNew l nodes old → SameNodes old new → IsWorld new.layout new.nodes new.inboxes new.mails
    → Allows old steps → CanReplay l nodes steps
replayed l nodes steps old new is same world could =
    let count : length new.nodes ≡ nodes = same.count ∙ count_of l nodes old is in
    record {
      some = subst (λ (n : ℕ). 0 < n) count world.some;
      few = subst (λ (n : ℕ). n ≤ most_nodes) count world.few;
      each = subst (λ (p : Parts). CanDo p (opening nodes) steps) is.layout (could (opening nodes) is.shows);
    }

-- all steps were done
pub all_done : (l : Parts) (nodes : ℕ) (steps : List Step) (old new : WorldState) → IsNew l nodes old → SameNodes old new
    → IsWorld new.layout new.nodes new.inboxes new.mails → Follows old steps new → Allows old steps → NoneStaler old.nodes new.nodes
    → CanReplay l nodes steps × (new.nodes ≡ nodes_after l nodes steps)
all_done l nodes steps old new is same world follows could kept = (
  replayed l nodes steps old new is same world could,
  all_held l new.nodes (after_all steps (opening nodes)).reached (follows (opening nodes) is.shows).knowledge
      (world.one_layout ∙ ap (λ (p : Parts). replicate (length new.nodes) p) (same.layout ∙ is.layout))
      (still_fresh old.nodes new.nodes nodes is.fresh kept),
)

refused_for : (found : Option WorldFault) (fault : WorldFault) → (fault ≡ Stale → ⊥) → (fault ≡ Memory → ⊥) → IsOutcome found (Err fault) → found ≡ Some fault
refused_for (Some other) fault stale memory h = cc h
refused_for None Stale stale memory h = absurd (stale refl)
refused_for None Memory stale memory h = absurd (memory refl)
refused_for None NoNode stale memory h = absurd h
refused_for None NoMail stale memory h = absurd h
refused_for None EmptyInbox stale memory h = absurd h
refused_for None Rank stale memory h = absurd h
refused_for None FrameLength stale memory h = absurd h
refused_for None NodeCount stale memory h = absurd h

undone : (fault : WorldFault) → (fault ≡ Stale → ⊥) → is_done (Err fault) ≡ false
undone Stale stale = absurd (stale refl)
undone NoNode stale = refl
undone NoMail stale = refl
undone EmptyInbox stale = refl
undone Rank stale = refl
undone FrameLength stale = refl
undone NodeCount stale = refl
undone Memory stale = refl

done_is : (k : ℕ) (fault : WorldFault) → (fault ≡ Stale → ⊥) → done_at k fault ≡ k
done_is k Stale stale = absurd (stale refl)
done_is k NoNode stale = refl
done_is k NoMail stale = refl
done_is k EmptyInbox stale = refl
done_is k Rank stale = refl
done_is k FrameLength stale = refl
done_is k NodeCount stale = refl
done_is k Memory stale = refl

-- Why a step is refused hangs on the state alone, as `states_refuse` tells.
abbrev pub StateLaw : Type 0
StateLaw = (w : WorldState) (s : State) (step : Step) → Shows w s → refusal (world_in w.layout s) step ≡ refusal w step

-- a step was refused, for no want of memory
step_refused : StateLaw → (l : Parts) (nodes : ℕ) (steps : List Step) (old new : WorldState) (k : ℕ) (fault : WorldFault) → IsNew l nodes old → SameNodes old new
    → IsWorld new.layout new.nodes new.inboxes new.mails → Follows old (take (done_at k fault) steps) new → Allows old (take (done_at k fault) steps) → StopsAt new steps (ended_at k fault)
    → (fault ≡ Stale → ⊥) → (fault ≡ Memory → ⊥) → RefusesStep l nodes steps k fault
step_refused law l nodes steps old new k fault is same world follows could stops stale memory =
    let s : ℕ → State = λ n. after_all (take n steps) (opening nodes) in
    let refused : refusal new stops.0 ≡ Some fault = refused_for (refusal new stops.0) fault stale memory (stops.2 (undone fault stale)) in
    let shown : Shows new (s (done_at k fault)) = follows (opening nodes) is.shows in
    let in_state : refusal (world_in l (s (done_at k fault))) stops.0 ≡ Some fault =
    ap (λ (p : Parts). refusal (world_in p (s (done_at k fault))) stops.0) (sym (same.layout ∙ is.layout)) ∙ law new (s (done_at k fault)) stops.0 shown ∙ refused in
    record {
      step = stops.0;
      at = stops.1;
      before = subst (λ (n : ℕ). CanReplay l nodes (take n steps)) (done_is k fault stale) (replayed l nodes (take (done_at k fault) steps) old new is same world could);
      refuses = subst (λ (n : ℕ). refusal (world_in l (s n)) stops.0 ≡ Some fault) (done_is k fault stale) in_state;
    }

-- a run ended at a step
pub stopped : StateLaw → (l : Parts) (nodes : ℕ) (steps : List Step) (old new : WorldState) (k : ℕ) (fault : WorldFault) → IsNew l nodes old → SameNodes old new
    → IsWorld new.layout new.nodes new.inboxes new.mails → Follows old (take (done_at k fault) steps) new → Allows old (take (done_at k fault) steps) → StopsAt new steps (ended_at k fault)
    → RefusesSteps l nodes steps (stop_of fault k)
stopped law l nodes steps old new k Stale is same world follows could stops = tt
stopped law l nodes steps old new k Memory is same world follows could stops = tt
stopped law l nodes steps old new k NoNode is same world follows could stops = step_refused law l nodes steps old new k NoNode is same world follows could stops (λ e. cc e) (λ e. cc e)
stopped law l nodes steps old new k NoMail is same world follows could stops = step_refused law l nodes steps old new k NoMail is same world follows could stops (λ e. cc e) (λ e. cc e)
stopped law l nodes steps old new k EmptyInbox is same world follows could stops = step_refused law l nodes steps old new k EmptyInbox is same world follows could stops (λ e. cc e) (λ e. cc e)
stopped law l nodes steps old new k Rank is same world follows could stops = step_refused law l nodes steps old new k Rank is same world follows could stops (λ e. cc e) (λ e. cc e)
stopped law l nodes steps old new k FrameLength is same world follows could stops = step_refused law l nodes steps old new k FrameLength is same world follows could stops (λ e. cc e) (λ e. cc e)
stopped law l nodes steps old new k NodeCount is same world follows could stops = step_refused law l nodes steps old new k NodeCount is same world follows could stops (λ e. cc e) (λ e. cc e)
