use Rattle.std.proofs.Common.{◌≡◌, List, take}
use Rattle.std.specs.List.{filter_map}
use Rattle.std.specs.Option.{option_map}
use Rattle.mpi_model.specs.declared.message.Message.{Message}
use Rattle.mpi_model.specs.declared.message.Receive.{Receive}
use Rattle.trace_pair.specs.After.{comes_after}
use Rattle.trace_pair.specs.Pairing.{receive_of}
use Rattle.trace_pair.specs.Settled.{Settles}
use Rattle.trace_pair.specs.Table.{pair_of, postponed_name}
use Rattle.trace_pair.proofs.rows.Rows.of_batch.Given as goal

abbrev pub invariant-loop-place : goal.invariant-loop-place
invariant-loop-place l = record {
  ahead : l.ahead ≡ l.batch.messages;
  pairs : (ms : List Message) (qs : List Receive) → Settles (comes_after l.reaches) ms qs l.batch → l.rows.pairs ≡ filter_map (λ m. option_map (pair_of m) (receive_of (comes_after l.reaches) ms qs m)) (take l.place l.messages);
  postponed : (ms : List Message) (qs : List Receive) → Settles (comes_after l.reaches) ms qs l.batch → l.rows.postponed ≡ filter_map (postponed_name (comes_after l.reaches) ms qs) (take l.place l.messages);
}
