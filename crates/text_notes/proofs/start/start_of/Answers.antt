use Rattle.std.proofs.Common.{arith, length, take, ◌≡◌, ◌≤◌, length-take}
use Rattle.mpi_model.specs.Whole.{HasCause, TakesFront}
use Rattle.mpi_model.specs.declared.whole.ReadFault.TheVariants.{Short}
use Rattle.text_notes.specs.declared.start.TheConstants.{LONGEST_FRONT}
use Rattle.text_notes.proofs.Fronts.{starts_full, starts_short}
use Rattle.text_notes.proofs.start.start_of.Goals as goal

pub returns-in-Ok-clause-ok : goal.returns-in-Ok-clause-ok
returns-in-Ok-clause-ok g c =
    starts_full (g.R.Read.left c.args.reader) (g.R.Read.left c.read_exactly.new.reader) c.read_exactly.new.buffer c.start_in.result c.in-Ok.ensures.ok c.read_exactly.auto.buffer c.start_in.ensures

pub returns-in-Err-Short-clause-ok : goal.returns-in-Err-Short-clause-ok
returns-in-Err-Short-clause-ok g c =
    let left = g.R.Read.left c.args.reader in
    let new = g.R.Read.left c.read_exactly.new.reader in
    let front : TakesFront left new c.read_exactly.new.buffer (Short c.in-Err-Short.taken) = rw c.in-Err-Short.field-0-is at c.in-Err-Short.ensures.err in
    let cause : HasCause new (g.R.Read.failures c.args.reader) (g.R.Read.failures c.read_exactly.new.reader) (Short c.in-Err-Short.taken) = rw c.in-Err-Short.field-0-is at c.in-Err-Short.ensures.cause in
    let full : length c.read_exactly.new.buffer ≡ LONGEST_FRONT = c.read_exactly.auto.buffer in
    let short : length (take c.in-Err-Short.taken c.read_exactly.new.buffer) ≤ LONGEST_FRONT = omega (arith, full, front.0, length-take c.in-Err-Short.taken c.read_exactly.new.buffer) in
    starts_short left new (take c.in-Err-Short.taken c.read_exactly.new.buffer) c.start_in-in-Err-Short.result front.1 cause.0 short c.start_in-in-Err-Short.ensures
