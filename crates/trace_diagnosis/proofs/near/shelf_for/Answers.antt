use Rattle.trace_diagnosis.proofs.Nearing.{asked_kept}
use Rattle.trace_diagnosis.proofs.near.shelf_for.Goals as goal

pub returns-clause-asked : goal.returns-clause-asked
returns-clause-asked c = asked_kept c.args.way c.args.receives.now c.in_ok-shelf.shelf c.put_messages.new.shelf c.in_ok-put_messages.ensures.keys c.in_ok-shelf.ensures.asked
