use Rattle.command_runs.specs.Refusals.{RefusesInSomeOrder}
use Rattle.run_inputs.specs.declared.faults.fault.RunFault.TheVariants.{Rank}
use Rattle.command_runs.proofs.AnyOrder.{one_refused, stranger_elsewhere, whole_elsewhere}
use Rattle.command_runs.proofs.pieces.any_order.fault_in_order.Goals as goal

pub look_for_strangers-requires : goal.look_for_strangers-requires
look_for_strangers-requires g c =
    let file = g.O.Opener.file c.args.run.now.files.now in
    let named : RefusesInSomeOrder file c.args.run.now.layout.now.ranks c.args.pieces.now (Rank c.in-Rank.path) = rw c.in-Rank.is at c.requires.refused in
    whole_elsewhere c.view_laws.ensures.same_facts file c.args.run.now.layout.now.ranks c.args.pieces.now c.in-Rank.path named

pub returns-in-Ok-clause-err : goal.returns-in-Ok-clause-err
returns-in-Ok-clause-err g c =
    let file = g.O.Opener.file c.args.run.now.files.now in
    let named : RefusesInSomeOrder file c.args.run.now.layout.now.ranks c.args.pieces.now (Rank c.in-Rank.path) = rw c.in-Rank.is at c.requires.refused in
    stranger_elsewhere c.view_laws.ensures.same_facts file c.args.run.now.layout.now.ranks c.args.pieces.now c.in-Rank.path named c.in-Ok.ensures.ok

pub look_for_refused-requires : goal.look_for_refused-requires
look_for_refused-requires g c =
    one_refused (g.O.Opener.file c.args.run.now.files.now) c.args.run.now.layout.now.ranks c.args.pieces.now c.args.fault c.in_default.not-Memory c.in_default.not-Rank c.requires.refused
