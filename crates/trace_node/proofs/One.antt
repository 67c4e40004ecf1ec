-- There is one answer.
use Rattle.std.proofs.Common.{◌≡◌, ℕ, List, Option, map, sym, ◌∙◌, ap}
use Rattle.mpi_model.specs.Layouts.{Parts}
use Rattle.trace_know.specs.View.{View}
use Rattle.trace_ops.specs.Ops.{Ops}
use Rattle.trace_ops.specs.declared.state.State.{State}
use Rattle.trace_stuck.specs.Laws.{RisingListsAreOne}
use Rattle.trace_stuck.specs.Shape.{Wait}
use Rattle.trace_node.specs.Answer.{Answered, AreStuck, IsAnswerBy, stopped_at, waits_of}

one_list : RisingListsAreOne → (states : List State) (waits : List (Option Wait)) (one other : List ℕ) → AreStuck states waits one → AreStuck states waits other → one ≡ other
one_list are_one states waits one other a b = are_one one other a.rising b.rising (λ r.
    let f = a.stuck r in
    let g = b.stuck r in
    (λ h. g.1 (f.0 h), λ h. f.1 (g.0 h)))

pub one_answer : RisingListsAreOne → (layout : Parts) (view : View) (ops : List Ops) (one other : Answered) →
    IsAnswerBy layout view ops one → IsAnswerBy layout view ops other → one ≡ other
one_answer are_one layout view ops one other a b =
    let ranks = one_list are_one _ _ _ _ a.stuck.1 b.stuck.1 in
    let e1 : one.ranks ≡ other.ranks = a.ranks ∙ sym b.ranks in
    let e2 : one.sends ≡ other.sends = a.sends ∙ sym b.sends in
    let e3 : one.prefixes ≡ other.prefixes = a.prefixes ∙ sym b.prefixes in
    let e4 : one.beyond ≡ other.beyond = a.beyond ∙ sym b.beyond in
    let e12 : one.unread ≡ other.unread = a.unread ∙ sym b.unread in
    let e5 : one.conflicts ≡ other.conflicts = a.conflicts ∙ sym b.conflicts in
    let e6 : one.pairs ≡ other.pairs = a.pairs ∙ sym b.pairs in
    let e7 : one.postponed ≡ other.postponed = a.postponed ∙ sym b.postponed in
    let e8 : one.rounds ≡ other.rounds = a.rounds ∙ sym b.rounds in
    let e9 : one.states ≡ other.states = a.states ∙ sym b.states in
    let e10 : one.stuck ≡ other.stuck = a.stuck.2 ∙ ap (map (stopped_at view ops (waits_of layout ops))) ranks ∙ sym b.stuck.2 in
    let e11 : one.foreign ≡ other.foreign = a.foreign ∙ sym b.foreign in
    λ i. record {
      ranks = e1 i;
      sends = e2 i;
      prefixes = e3 i;
      beyond = e4 i;
      unread = e12 i;
      conflicts = e5 i;
      pairs = e6 i;
      postponed = e7 i;
      rounds = e8 i;
      states = e9 i;
      stuck = e10 i;
      foreign = e11 i;
    }
