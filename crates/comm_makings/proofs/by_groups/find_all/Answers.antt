use Rattle.std.proofs.Common.{arith}
use Rattle.comm_makings.proofs.GroupCalls.{same_behind, same_from}
use Rattle.comm_makings.proofs.by_groups.find_all.Goals as goal

pub read_turn-requires-clause-same : goal.read_turn-requires-clause-same
read_turn-requires-clause-same c =
    same_from c.args.calls.now c.loop-at.at c.same_length.result _ _ c.loop-at-test.true (omega arith)
    (same_behind c.args.calls.now c.loop-at.at c.same_length.result _ _ _ c.same_length.ensures.same)
