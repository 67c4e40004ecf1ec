-- A run whose answers are made at its end.
use Rattle.std.proofs.Common.{◌≡◌, ℕ, false, Ok, Err, None, Some, Option, Result, List, length, take, ap, sym, ◌∙◌, refl, subst, nat_lt, if◌then◌else◌}
use Rattle.std.specs.Prelude.{slice_index_or, OnOk, is_err}
use Rattle.std.specs.FinMap.{empty}
use Rattle.std.proofs.lemmas.List.{length-map}
use Rattle.trace_know.specs.Segment.{PlacedEvents}
use Rattle.trace_know.specs.View.{View}
use Rattle.trace_node.specs.Node.{Held}
use Rattle.mpi_model.specs.Layouts.{Parts}
use Rattle.trace_world.specs.declared.step.Step.{Step}
use Rattle.trace_world.specs.declared.step.Step.TheVariants.{Post, Take, Ship, Deliver, Restart}
use Rattle.trace_world.specs.declared.step.StepFault.{StepFault}
use Rattle.trace_world.specs.declared.step.WorldFault.{WorldFault}
use Rattle.trace_world.specs.declared.step.WorldFault.TheVariants.{NoNode, NoMail, EmptyInbox, Rank, FrameLength, Stale, NodeCount, Memory}
use Rattle.trace_world.specs.Answers.{AllAnswered, LosesAt}
use Rattle.trace_world.specs.Ends.{Ends, EndsHeld, SameButAnswers}
use Rattle.trace_world.specs.Refusals.{IsOutcome, SameNodes, done, no_front, node_of, refusal, refusal_there, too_long}
use Rattle.trace_world.specs.Schedule.{at}
use Rattle.trace_world.specs.Shows.{Follows, WorldState, knows}
use Rattle.trace_world.proofs.Following.{same_then}

-- as many nodes
count_same : (mid new : WorldState) → SameButAnswers mid new → length new.nodes ≡ length mid.nodes
count_same mid new same = sym (length-map new.nodes (λ (n : Held). n.know)) ∙ ap (λ (l : List View). length l) same.knows ∙ length-map mid.nodes (λ (n : Held). n.know)

pub same_nodes : (mid new : WorldState) → SameButAnswers mid new → SameNodes mid new
same_nodes mid new same = record { layout = same.layout; count = count_same mid new same }

-- what was shown is shown still
pub follows_on : (old mid new : WorldState) (steps : List Step) → Follows old steps mid → SameButAnswers mid new → Follows old steps new
follows_on old mid new steps f same s h =
    let g = f s h in
    record { knowledge = same.knows ∙ g.knowledge; inboxes = same.inboxes ∙ g.inboxes; mails = same.mails ∙ g.mails; framed = g.framed }

-- what refuses a step of a node that is there
there_same : (mid new : WorldState) (x : Step) → SameButAnswers mid new → refusal_there new x ≡ refusal_there mid x
there_same mid new (Post worker node segment) same = ap (λ (l : Parts). if nat_lt segment.rank l.ranks then None else Some Rank) same.layout
there_same mid new (Take node) same = ap (λ (l : List (List PlacedEvents)). no_front (at l node)) same.inboxes
there_same mid new (Ship node) same = ap (λ (l : List View). too_long (slice_index_or l node empty)) same.knows
there_same mid new (Deliver mail node) same = ap (λ (l : List (List ℕ)). if nat_lt mail (length l) then None else Some NoMail) same.mails
there_same mid new (Restart node) same = refl

-- a step of a node that is there, or is not
abbrev refused_by : ℕ → ℕ → Option WorldFault → Option WorldFault
refused_by node count there = if nat_lt node count then there else Some NoNode

by_parts : (mid new : WorldState) (x : Step) (node : ℕ) → refusal mid x ≡ refused_by node (length mid.nodes) (refusal_there mid x) → refusal new x ≡ refused_by node (length new.nodes) (refusal_there new x) → SameButAnswers mid new → refusal new x ≡ refusal mid x
by_parts mid new x node is also same =
    also ∙ ap (λ (n : ℕ). refused_by node n (refusal_there new x)) (count_same mid new same)
    ∙ ap (λ (there : Option WorldFault). refused_by node (length mid.nodes) there) (there_same mid new x same) ∙ sym is

refused_same : (mid new : WorldState) (x : Step) → SameButAnswers mid new → refusal new x ≡ refusal mid x
refused_same mid new (Post worker node segment) same = by_parts mid new (Post worker node segment) node refl refl same
refused_same mid new (Take node) same = by_parts mid new (Take node) node refl refl same
refused_same mid new (Ship node) same = by_parts mid new (Ship node) node refl refl same
refused_same mid new (Deliver mail node) same = by_parts mid new (Deliver mail node) node refl refl same
refused_same mid new (Restart node) same = by_parts mid new (Restart node) node refl refl same

-- no answer is lost
none_lost : (steps : List Step) (k : ℕ) (fault : WorldFault) (old new : List Held) → (fault ≡ Stale → ⊥) → AllAnswered new → LosesAt steps k fault old new
none_lost steps k Stale old new whole all = absurd (whole refl)
none_lost steps k NoNode old new whole all = λ i had. all i
none_lost steps k NoMail old new whole all = λ i had. all i
none_lost steps k EmptyInbox old new whole all = λ i had. all i
none_lost steps k Rank old new whole all = λ i had. all i
none_lost steps k FrameLength old new whole all = λ i had. all i
none_lost steps k NodeCount old new whole all = λ i had. all i
none_lost steps k Memory old new whole all = λ i had. all i

-- the answers are made
pub answered : (old mid new : WorldState) (steps : List Step) (r : Result (Unit {0}) StepFault) → EndsHeld old steps r mid → SameButAnswers mid new → AllAnswered new.nodes → Ends old steps r new
answered old mid new steps (Ok x) ended same all = record {
  ok = follows_on old mid new steps ended.ok same;
  possible = ended.possible;
  fresh = λ i had. all i;
  answered = λ step has makes. all (node_of step);
  err = tt;
  possible_before = tt;
  cause = tt;
  lost = tt;
  same = same_then old mid new ended.same (same_nodes mid new same);
}
answered old mid new steps (Err e) ended same all = record {
  ok = tt;
  possible = tt;
  fresh = tt;
  answered = tt;
  err = (ended.err.0, follows_on old mid new (take (done e) steps) ended.err.1 same);
  possible_before = ended.possible_before;
  cause = (ended.cause.0, ended.cause.1, λ undone. subst (λ (found : Option WorldFault). IsOutcome found (Err e.fault)) (sym (refused_same mid new ended.cause.0 same)) (ended.cause.2 undone));
  lost = none_lost steps e.step e.fault old.nodes new.nodes ended.whole all;
  same = same_then old mid new ended.same (same_nodes mid new same);
}

-- what comes where a call was not refused
pub on_ok : {E : Type 0} (P : Type 0) (r : Result (Unit {0}) E) → is_err r ≡ false → OnOk r P → P
on_ok P (Ok x) ok p = p
on_ok P (Err e) ok p = absurd (cc)
