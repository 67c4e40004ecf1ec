use Rattle.std.proofs.Common.{◌≡◌, drop}
use Rattle.dumpi_calls.specs.Rows.{first_called}
use Rattle.dumpi_calls.proofs.function.first_called.Given as goal

abbrev pub invariant-loop-kind : goal.invariant-loop-kind
invariant-loop-kind l = first_called l.name (drop l.kind-index l.kinds) ≡ first_called l.name l.kinds
