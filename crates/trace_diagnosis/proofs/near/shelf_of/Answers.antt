use Rattle.std.proofs.lemmas.List.{get_or_default}
use Rattle.trace_diagnosis.proofs.Nearing.{receives_more}
use Rattle.trace_diagnosis.proofs.near.shelf_of.Goals as goal

pub loop-at-preserved : goal.loop-at-preserved
loop-at-preserved c = receives_more c.args.way c.args.receives.now c.loop-at.at _ c.loop-at.shelf c.put_receive.new.shelf c.loop-at-test.true (get_or_default c.args.receives.now c.loop-at.at _ _ c.loop-at-test.true) c.loop-at.invariant
    c.in_ok-put_receive.ensures
