use Rattle.std.proofs.Common.{◌≡◌, IfOk, List, subst}
use Rattle.trace_ops.specs.Ops.{Ops}
use Rattle.trace_wait.specs.Rounds.{rounds_of}
use Rattle.trace_wait.proofs.tally.rounds.Goals as goal

pub returns : goal.returns
returns c =
    subst (λ (o : List Ops). IfOk c.rounds_by.result (λ v. v.items ≡ rounds_of c.args.layout.now.comms o))
    c.in_ok-entries.ensures c.rounds_by.ensures
