use Rattle.run_inputs.specs.Files.{StandsAtFirst}
use Rattle.command_runs.proofs.Told.{may_fail, walk_told}
use Rattle.command_runs.proofs.pieces.piece.events_of.Goals as goal

pub returns-in-Err-clause-err : goal.returns-in-Err-clause-err
returns-in-Err-clause-err g c =
    let file = g.O.Opener.file c.args.files.now c.args.piece.now.file in
    let left = g.O.R.Read.left c.new-watched.result.inner in
    let told : StandsAtFirst file left = rw c.new-watched.ensures (rw c.file-path.ensures at c.in_ok-reader.ensures.ok) in
    walk_told c.args.piece.now.file c.args.piece.now.first file left _ _ c.in-Err.fault c.in_ok-fault_of_walk-in-Err.field-0 told c.in-Err.ensures.err
    (λ stops. may_fail _ _ c.new-watched.result _ _ (c.in-Err.ensures.failure stops)) (rw c.file-path.ensures at c.in_ok-fault_of_walk-in-Err.ensures.fault)
