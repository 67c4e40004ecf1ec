use Rattle.run_inputs.proofs.Opening.{file_unopened, whole_refused}
use Rattle.run_inputs.proofs.Runs.{handed_on}
use Rattle.run_inputs.proofs.load.input.file_at.Goals as goal

pub returns-in_err-reader-clause-err : goal.returns-in_err-reader-clause-err
returns-in_err-reader-clause-err g c =
    handed_on c.from_residual.result _ _ c.from_residual.ensures.1 (file_unopened c.args.most _ c.args.path.now _ c.in_err-reader.field-0.0 c.in_err-reader.ensures.err)

pub returns-clause-err : goal.returns-clause-err
returns-clause-err g c =
    let file = g.O.Opener.file c.args.files.now c.args.path.now in
    whole_refused c.args.most c.args.path.now file g.O.R.Read.left g.O.R.Read.failures c.in_ok-reader.reader c.read_whole.new.reader c.in-Err.fault c.in_ok-fault_of_whole-in-Err.field-0
    c.in_ok-reader.ensures.ok c.in-Err.ensures.err c.in_ok-fault_of_whole-in-Err.ensures
