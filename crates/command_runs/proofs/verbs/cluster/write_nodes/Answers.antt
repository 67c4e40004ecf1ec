use Rattle.std.proofs.lemmas.Result.{on_err_weaker, on_ok_weaker}
use Rattle.command_runs.proofs.verbs.cluster.write_nodes.Goals as goal

pub returns-clause-ok : goal.returns-clause-ok
returns-clause-ok g c =
    on_ok_weaker c.write_both.result (λ h. (h.0, (_, _, c.in-Ok.ensures.ok, c.in-Ok-told.ensures.ok, h.1), h.2)) c.write_both.ensures.ok

pub returns-clause-err : goal.returns-clause-err
returns-clause-err g c =
    on_err_weaker c.write_both.result (λ h. (h.0, (_, _, c.in-Ok.ensures.ok, c.in-Ok-told.ensures.ok, h.1), h.2)) c.write_both.ensures.err
