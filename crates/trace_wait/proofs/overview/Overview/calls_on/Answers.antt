use Rattle.std.proofs.Common.{◌∙◌, ap, List}
use Rattle.trace_wait.specs.Parts.{Run}
use Rattle.trace_wait.specs.Calls.{CallsOn, counts, row_of}
use Rattle.trace_wait.proofs.Tables.{row_is}
use Rattle.trace_wait.proofs.overview.Overview.calls_on.Goals as goal

pub returns : goal.returns
returns c =
    c.row_of.ensures ∙ ap (λ (l : List CallsOn). row_of l c.args.comm) c.self.invariant.3 ∙ row_is c.self.inside.layout.now.comms c.self.inside.ops.now c.args.comm
    ∙ ap (λ (s : Run). counts s.layout.comms s.ops c.args.comm) c.self.view_is
