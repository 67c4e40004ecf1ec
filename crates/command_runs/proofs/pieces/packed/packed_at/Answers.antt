use Rattle.command_runs.proofs.Unpacking.{file_refused, file_told}
use Rattle.command_runs.proofs.Opening.{packed_unopened}
use Rattle.command_runs.proofs.Runs.{handed_on}
use Rattle.command_runs.proofs.pieces.packed.packed_at.Goals as goal

pub returns-in-Ok-clause-ok : goal.returns-in-Ok-clause-ok
returns-in-Ok-clause-ok g c =
    file_told _ _ c.args.run.now.layout.now.ranks _ c.in-Ok.know c.in_ok-reader.ensures.ok c.ranks.ensures.value c.in-Ok.ensures.ok

pub returns-clause-err : goal.returns-clause-err
returns-clause-err g c =
    file_refused c.args.path.now c.args.run.now.layout.now.ranks _ _ _ _ _ c.in-Err.fault c.in_ok-refusal-in-Err.field-0 c.in_ok-reader.ensures.ok c.ranks.ensures.value c.in-Err.ensures.err
    c.in_ok-refusal-in-Err.ensures

pub returns-in_err-reader-clause-err : goal.returns-in_err-reader-clause-err
returns-in_err-reader-clause-err g c =
    handed_on c.from_residual.result _ _ c.from_residual.ensures.1 (packed_unopened c.args.path.now c.args.run.now.layout.now.ranks _ c.in_err-reader.field-0.0 c.in_err-reader.ensures.err)
