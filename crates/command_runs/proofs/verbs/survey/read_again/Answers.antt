use Rattle.std.proofs.Common.{IfErr}
use Rattle.command_runs.specs.Tables.{RefusesAgain}
use Rattle.command_runs.proofs.verbs.survey.read_again.Goals as goal

pub returns-in-Pieces-clause-err : goal.returns-in-Pieces-clause-err
returns-in-Pieces-clause-err g c =
    let refuses : IfErr c.known_of_rank.result (RefusesAgain (g.O.Opener.file c.args.run.now.files.now) c.args.run.now.manifest.now.pieces) = rw c.pieces.ensures at c.known_of_rank.ensures.err in
    refuses
