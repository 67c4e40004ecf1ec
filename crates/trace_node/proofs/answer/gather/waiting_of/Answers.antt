use Rattle.std.proofs.Common.{◌≡◌, ◌∙◌, ap, map}
use Rattle.trace_wait.specs.Conditions.{conditions_from}
use Rattle.trace_node.specs.Answer.{shapes, states_of, waits_of}
use Rattle.trace_node.specs.ByRank.{stopped_by}
use Rattle.trace_node.proofs.Waits.{are_stuck}
use Rattle.trace_node.proofs.answer.gather.waiting_of.Goals as goal

pub returns-clause-stuck : goal.returns-clause-stuck
returns-clause-stuck c =
    let rounds = c.deref.ensures.value ∙ c.in_ok-rounds.ensures in
    let waits : shapes c.in_ok-conditions.conditions.items ≡ waits_of c.args.layout.now c.args.ops.now =
    c.in_ok-conditions.ensures ∙ (λ i. conditions_from (record { layout = c.args.layout.now; ops = c.args.ops.now; pairs = (c.requires.table i).pairs; rounds = rounds i }) 0 c.args.ops.now) in
    let conditions = ap shapes c.deref-3.ensures.value ∙ waits in
    let told = ap shapes c.deref_mut.ensures.value ∙ waits in (
      c.in_ok-verdict.verdict.stuck.items,
      are_stuck c.in_ok-verdict.verdict.stuck.items (states_of c.args.ops.now) c.deref-2.result.now c.deref-3.result.now (waits_of c.args.layout.now c.args.ops.now)
          (c.deref-2.ensures.value ∙ c.in_ok-states.ensures) conditions c.in_ok-verdict.ensures.rising c.in_ok-verdict.ensures.stuck,
      c.in_ok-stuck.ensures ∙ (λ i. map (stopped_by c.args.walls.now c.args.ops.now (told i)) (c.deref-4.ensures.value i)),
    )
