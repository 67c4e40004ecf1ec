use Rattle.std.proofs.Common.{◌∙◌, ap}
use Rattle.trace_wait.specs.Tallies.{stands}
use Rattle.trace_wait.proofs.Columns.{pushed_more}
use Rattle.trace_wait.proofs.tally.push_rounds.Goals as goal

pub loop-k-preserved : goal.loop-k-preserved
loop-k-preserved c =
    pushed_more c.args.comm c.args.members c.loop-k.k c.args.tallies.now c.index-tallies-k.result c.stands.result c.args.out.now.items c.loop-k.out.items c.push.new.self.items c.loop-k-test.true
    c.in_ok-push.ensures.items (c.stands.ensures ∙ ap (stands c.args.members) c.index-tallies-k.is) c.loop-k.invariant
