use Rattle.std.proofs.Common.{◌∙◌, ap, List}
use Rattle.trace_ops.specs.Ops.{Ops}
use Rattle.trace_wait.specs.Calls.{calls_of}
use Rattle.trace_wait.specs.Parts.{Run}
use Rattle.trace_wait.proofs.overview.Overview.calls_of.Goals as goal

pub returns : goal.returns
returns c =
    c.calls_on.ensures ∙ ap (λ (ops : List Ops). calls_of ops c.args.comm c.args.r) c.self.invariant.7
    ∙ ap (λ (s : Run). calls_of s.ops c.args.comm c.args.r) c.self.view_is
