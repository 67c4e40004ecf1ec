use Rattle.std.proofs.Common.{◌≡◌, sym, subst}
use Rattle.trace_know.specs.View.{View}
use Rattle.command_runs.specs.Traces.{IsKnown}
use Rattle.command_runs.proofs.ByRank.{known_of, own_refused}
use Rattle.command_runs.proofs.Runs.{handed_on}
use Rattle.command_runs.proofs.pieces.by_rank.known_of_rank.Goals as goal

pub returns-in_err-gathered-clause-err : goal.returns-in_err-gathered-clause-err
returns-in_err-gathered-clause-err g c =
    handed_on c.from_residual.result _ _ c.from_residual.ensures.1
    (own_refused (g.O.Opener.file c.args.run.now.files.now) c.args.run.now.layout.now.ranks c.args.rank c.args.pieces.now c.in_err-gathered.field-0.0 c.requires.rank c.requires.own c.in_err-gathered.ensures.err)

pub returns-clause-ok : goal.returns-clause-ok
returns-clause-ok g c =
    let file = g.O.Opener.file c.args.run.now.files.now in
    subst (λ (v : View). IsKnown file c.args.pieces.now v) (sym c.in_ok-know.ensures) c.in_ok-gathered.ensures.ok

pub returns-clause-of : goal.returns-clause-of
returns-clause-of g c =
    let file = g.O.Opener.file c.args.run.now.files.now in
    let known : IsKnown file c.args.pieces.now c.in_ok-know.know = subst (λ (v : View). IsKnown file c.args.pieces.now v) (sym c.in_ok-know.ensures) c.in_ok-gathered.ensures.ok in
    known_of c.view_laws.ensures.cells (λ r. r ≡ c.args.rank) file c.args.pieces.now c.in_ok-know.know known c.requires.own
