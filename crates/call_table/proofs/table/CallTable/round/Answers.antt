use Rattle.std.proofs.Common.{◌∙◌, List, ap}
use Rattle.trace_ops.specs.Ops.{Ops}
use Rattle.trace_wait.specs.Collectives.{round_of_call}
use Rattle.trace_wait.specs.Ranks.{ops_of}
use Rattle.call_table.specs.Rows.{Told}
use Rattle.call_table.proofs.table.CallTable.round.Goals as goal

pub round_of-requires : goal.round_of-requires
round_of-requires c = c.self.invariant.entered

pub returns : goal.returns
returns c =
    c.round_of.ensures
    ∙ ap (λ (l : List Ops). round_of_call (ops_of l c.args.rank) c.args.call) c.self.invariant.same
    ∙ ap (λ (t : Told). round_of_call (ops_of t.ops c.args.rank) c.args.call) c.self.view_is
