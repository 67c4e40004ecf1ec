use Rattle.std.proofs.Common.{arith, length, take, ◌≡◌, ◌≤◌, length-take}
use Rattle.mpi_model.specs.Whole.{HasCause, TakesFront}
use Rattle.mpi_model.specs.declared.whole.ReadFault.TheVariants.{Short}
use Rattle.run_inputs.specs.declared.load.first_look.TheConstants.{LONGEST_LOOK}
use Rattle.run_inputs.proofs.Looks.{looked_full, looked_short}
use Rattle.run_inputs.proofs.load.first_look.look_at.Goals as goal

pub returns-in-Ok-clause-ok : goal.returns-in-Ok-clause-ok
returns-in-Ok-clause-ok g c =
    looked_full (g.R.Read.left c.args.reader) (g.R.Read.left c.read_exactly.new.reader) c.read_exactly.new.buffer c.has_call.result c.in-Ok.ensures.ok c.read_exactly.auto.buffer c.has_call.ensures

pub returns-in-Err-Short-clause-ok : goal.returns-in-Err-Short-clause-ok
returns-in-Err-Short-clause-ok g c =
    let left = g.R.Read.left c.args.reader in
    let new = g.R.Read.left c.read_exactly.new.reader in
    let front : TakesFront left new c.read_exactly.new.buffer (Short c.in-Err-Short.taken) = rw c.in-Err-Short.field-0-is at c.in-Err-Short.ensures.err in
    let cause : HasCause new (g.R.Read.failures c.args.reader) (g.R.Read.failures c.read_exactly.new.reader) (Short c.in-Err-Short.taken) = rw c.in-Err-Short.field-0-is at c.in-Err-Short.ensures.cause in
    let full : length c.read_exactly.new.buffer ≡ LONGEST_LOOK = c.read_exactly.auto.buffer in
    let short : length (take c.in-Err-Short.taken c.read_exactly.new.buffer) ≤ LONGEST_LOOK = omega (arith, full, front.0, length-take c.in-Err-Short.taken c.read_exactly.new.buffer) in
    looked_short left new (take c.in-Err-Short.taken c.read_exactly.new.buffer) c.has_call-in-Err-Short.result front.1 cause.0 short c.has_call-in-Err-Short.ensures
