use Rattle.trace_diagnosis.specs.Rounds.{mismatched_in, open_in, opened_told}
use Rattle.trace_diagnosis.proofs.Lists.{flat_step}
use Rattle.trace_diagnosis.proofs.rounds.rounds_of.Goals as goal

pub loop-round-preserved : goal.loop-round-preserved
loop-round-preserved c =
    let i = c.loop-round.round-index in
    let lt = c.loop-round-test.true in
    let before = c.loop-round.invariant in
    let now = c.in_ok-push_round.ensures in
    record {
      mismatched = flat_step (λ m. m.round) mismatched_in c.loop-round.told.mismatched.items _ c.args.rounds.now i c.round-item.result now.mismatched before.mismatched lt c.round-item.is;
      calls = flat_step opened_told open_in c.loop-round.told.open.items _ c.args.rounds.now i c.round-item.result now.calls before.calls lt c.round-item.is;
      members = now.members before.members;
    }
