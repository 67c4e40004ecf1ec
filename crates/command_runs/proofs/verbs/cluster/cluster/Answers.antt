use Rattle.std.proofs.Common.{inl, refl}
use Rattle.command_runs.proofs.Runs.{run_refused}
use Rattle.command_runs.proofs.verbs.cluster.cluster.Goals as goal

pub returns-in_err-nodes-clause-ran : goal.returns-in_err-nodes-clause-ran
returns-in_err-nodes-clause-ran g c =
    run_refused _ _ _ c.from_residual.result c.in_err-nodes.field-0.0 g.W.Write.written g.W.Write.failures c.args.out.now c.from_residual.ensures.1 c.in_err-nodes.ensures.err

pub returns-in-Ok-clause-ran : goal.returns-in-Ok-clause-ran
returns-in-Ok-clause-ran g c =
    let wrote = c.in-Ok.ensures.ok in
    (refl, (wrote.0, (c.in_ok-nodes.nodes.0, c.in_ok-nodes.nodes.1, c.in_ok-nodes.ensures.ok, wrote.1), wrote.2))

pub returns-in-Err-clause-ran : goal.returns-in-Err-clause-ran
returns-in-Err-clause-ran g c =
    let wrote = c.in-Err.ensures.err in
    inl (refl, ((wrote.0, (c.in_ok-nodes.nodes.0, c.in_ok-nodes.nodes.1, c.in_ok-nodes.ensures.ok, wrote.1), wrote.2), c.in-Err.ensures.failed))
