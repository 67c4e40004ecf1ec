use Rattle.std.proofs.Common.{inl, refl}
use Rattle.command_runs.proofs.Runs.{run_refused}
use Rattle.command_runs.proofs.verbs.replay.replay.Goals as goal

pub returns-in_err-world-clause-ran : goal.returns-in_err-world-clause-ran
returns-in_err-world-clause-ran g c =
    run_refused _ _ _ c.from_residual.result c.in_err-world.field-0.0 g.W.Write.written g.W.Write.failures c.args.out.now c.from_residual.ensures.1 c.in_err-world.ensures.err

pub returns-in-Ok-clause-ran : goal.returns-in-Ok-clause-ran
returns-in-Ok-clause-ran g c =
    let wrote = c.in-Ok.ensures.ok in
    (refl, (wrote.0, (c.in_ok-world.world.nodes, c.in_ok-world.ensures.ok, wrote.1), wrote.2))

pub returns-clause-ran : goal.returns-clause-ran
returns-clause-ran g c =
    let wrote = c.in-Err.ensures.err in
    inl (refl, ((wrote.0, (c.in_ok-world.world.nodes, c.in_ok-world.ensures.ok, wrote.1), wrote.2), c.in-Err.ensures.failed))
