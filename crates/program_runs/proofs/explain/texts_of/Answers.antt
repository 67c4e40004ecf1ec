use Rattle.std.proofs.Common.{List, subst, sym}
use Rattle.trace_ops.specs.Ops.{AreOwn, Ops}
use Rattle.program_runs.proofs.explain.texts_of.Goals as goal

pub compare_arguments-requires : goal.compare_arguments-requires
compare_arguments-requires g c =
    subst (λ (os : List Ops). AreOwn 0 os) (sym (c.ops-ops.ensures c.args.run.now.layout.now c.requires.0 c.requires.1))
    (c.ops_laws.ensures.all c.args.run.now.layout.now c.requires.0)
