use Rattle.std.proofs.Common.{◌∙◌, sym}
use Rattle.mpi_model.proofs.Found.{clash_still, have_calls}
use Rattle.mpi_model.proofs.layout.rules.has_clash_of.Goals as goal

pub has_clash-requires-clause-calls : goal.has_clash-requires-clause-calls
has_clash-requires-clause-calls c = have_calls c.args.object c.args.comms.now c.args.names.now c.requires.same

pub returns : goal.returns
returns c = c.has_clash.ensures ∙ sym (clash_still c.args.object c.args.comms.now c.args.names.now c.requires.same)
