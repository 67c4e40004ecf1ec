use Rattle.std.proofs.Common.{◌∙◌, ap, List}
use Rattle.trace_ops.specs.Ops.{Ops}
use Rattle.trace_wait.specs.Ranks.{ops_of}
use Rattle.trace_wait.specs.Rounds.{on_comm}
use Rattle.trace_wait.specs.Entries.{Row, listed_at}
use Rattle.trace_wait.proofs.Rows.{listed_is}
use Rattle.trace_wait.proofs.entries.Entries.on.Goals as goal

pub returns : goal.returns
returns c =
    c.listed_at.ensures ∙ ap (λ (l : List Row). listed_at l c.args.r c.args.comm) c.deref.ensures.value
    ∙ listed_is _ _ c.args.r c.args.comm c.self.invariant
    ∙ ap (λ (o : List Ops). on_comm c.args.comm (ops_of o c.args.r).rounds) c.self.view_is
