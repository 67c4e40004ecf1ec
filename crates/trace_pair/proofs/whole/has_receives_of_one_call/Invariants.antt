use Rattle.std.proofs.Common.{◌-◌, ◌<◌, length}
use Rattle.mpi_model.specs.declared.message.Receive.{Receive}
use Rattle.trace_pair.proofs.Neighbours.{AreApartTo}
use Rattle.trace_pair.proofs.whole.has_receives_of_one_call.Given as goal

abbrev pub invariant-loop-next : goal.invariant-loop-next
invariant-loop-next l = record {
  low : 0 < l.next;
  apart : AreApartTo (λ (q : Receive). q.name.call) l.calls l.next;
}

abbrev pub decreases-loop-next : goal.decreases-loop-next
decreases-loop-next l = length l.calls - l.next
