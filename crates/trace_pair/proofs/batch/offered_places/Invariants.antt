use Rattle.std.proofs.Common.{◌≡◌, List, length, take}
use Rattle.std.specs.List.{All, AllZip}
use Rattle.mpi_model.specs.declared.message.Message.{Message}
use Rattle.mpi_model.specs.declared.message.Receive.{Receive}
use Rattle.trace_pair.specs.After.{comes_after}
use Rattle.trace_pair.specs.Calls.{AddsReceives}
use Rattle.trace_pair.specs.Settled.{SettlesAmong, IsOfferedAt, IsWithin}
use Rattle.trace_pair.proofs.batch.offered_places.Given as goal

abbrev pub invariant-loop-q : goal.invariant-loop-q
invariant-loop-q l = record {
  kept : l.batch ≡ l.fn.batch;
  long : length l.found.items ≡ l.q-index;
  within : All (IsWithin l.fn.batch) l.found.items;
  found : (ms : List Message) (qs more : List Receive) → AddsReceives qs more l.call → SettlesAmong (comes_after l.reaches) ms more qs more l.fn.batch → AllZip (IsOfferedAt (comes_after l.reaches) ms qs more) (take l.q-index l.call) l.found.items;
}
