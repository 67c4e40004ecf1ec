use Rattle.std.proofs.Common.{List, subst, sym}
use Rattle.trace_ops.specs.Ops.{AreOwn, Ops}
use Rattle.program_runs.proofs.explain.printed.Goals as goal

pub with_last_calls-requires-clause-did : goal.with_last_calls-requires-clause-did
with_last_calls-requires-clause-did g c =
    subst (λ (os : List Ops). AreOwn 0 os) (sym (c.ops-ops.ensures c.args.run.now.layout.now c.args.know.now c.requires))
    (c.ops_laws.ensures.all c.args.run.now.layout.now c.args.know.now)
