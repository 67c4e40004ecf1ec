use Rattle.std.proofs.Common.{arith, inr, ◌<◌, sym, length}
use Rattle.command_runs.specs.Pieces.{RefusesPiece}
use Rattle.command_runs.proofs.Runs.{handed_on}
use Rattle.command_runs.proofs.verbs.survey.known_of_rank.Goals as goal

pub returns-in_err-whole-clause-err : goal.returns-in_err-whole-clause-err
returns-in_err-whole-clause-err g c =
    let file = g.O.Opener.file c.args.run.now.files.now in
    let pieces = c.args.pieces.now in
    let i = c.loop-piece.piece-index in
    let piece = c.piece-item.result in
    let below : i < length pieces = omega arith in
    let refuses : RefusesPiece piece.file piece.first (file piece.file) c.in_err-whole.field-0.0 = c.in_err-whole.ensures.err in
    handed_on c.from_residual.result _ _ c.from_residual.ensures.1 (inr (piece, (i, below, sym c.piece-item.is), refuses))
