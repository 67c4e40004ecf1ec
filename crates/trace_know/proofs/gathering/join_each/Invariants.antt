use Rattle.std.proofs.Common.{◌≡◌}
use Rattle.trace_know.specs.Trace.{facts_of_all, view_of}
use Rattle.trace_know.specs.View.{join}
use Rattle.trace_know.proofs.gathering.join_each.Given as goal

abbrev pub invariant-loop-piece : goal.invariant-loop-piece
invariant-loop-piece l = l.all ≡ join l.initial.all (view_of (facts_of_all l.yielded))
