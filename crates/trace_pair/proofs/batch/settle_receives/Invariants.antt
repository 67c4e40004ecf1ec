use Rattle.std.proofs.Common.{◌≡◌, List, take}
use Rattle.std.specs.List.{AllZip}
use Rattle.mpi_model.specs.declared.message.Message.{Message}
use Rattle.mpi_model.specs.declared.message.Receive.{Receive}
use Rattle.trace_pair.specs.Calls.{AddsReceives}
use Rattle.trace_pair.specs.Indexed.{with_kind}
use Rattle.trace_pair.specs.Pairing.{After}
use Rattle.trace_pair.specs.Settled.{SettlesAmong, IsNextKind, IsOfferedAt}
use Rattle.trace_pair.proofs.batch.settle_receives.Given as goal

abbrev pub invariant-loop-i : goal.invariant-loop-i
invariant-loop-i l = record {
  kept : l.batch.messages.messages ≡ l.fn.batch.messages.messages;
  settled : (after : After) (ms : List Message) (qs more done : List Receive) → AddsReceives qs more l.call → AllZip (IsOfferedAt after ms qs more) l.call l.found → IsNextKind l.any_tag qs l.call done → SettlesAmong after ms more done more l.fn.batch → SettlesAmong after ms more (with_kind l.any_tag (take l.i l.call) done) more l.batch;
}
