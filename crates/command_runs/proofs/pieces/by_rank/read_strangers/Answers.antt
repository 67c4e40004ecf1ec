use Rattle.std.proofs.Common.{◌≤◌, subst, arith}
use Rattle.trace_know.specs.View.{View}
use Rattle.command_runs.specs.Traces.{IsKnown}
use Rattle.command_runs.proofs.ByRank.{known_of, none_known}
use Rattle.command_runs.proofs.pieces.by_rank.read_strangers.Goals as goal

pub returns-clause-ok : goal.returns-clause-ok
returns-clause-ok g c =
    let file = g.O.Opener.file c.args.run.now.files.now in
    let none = none_known c.join_laws.ensures.same_cells c.in_ok-_others._others.know (λ r p some.
    let high = known_of c.view_laws.ensures.cells (λ r. c.args.run.now.layout.now.ranks ≤ r) file c.args.pieces.now c.in_ok-_others._others.know c.in_ok-_others.ensures.ok c.requires r p some in
    let low = c.in_ok-_others.ensures.within r p some in
    omega (arith, high, low)) in
    subst (λ (v : View). IsKnown file c.args.pieces.now v) none c.in_ok-_others.ensures.ok
