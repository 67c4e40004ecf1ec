use Rattle.std.proofs.Common.{◌≡◌, ◌++◌, List, take}
use Rattle.std.specs.List.{filter_map}
use Rattle.std.specs.Option.{option_map}
use Rattle.mpi_model.specs.declared.message.Message.{Message}
use Rattle.mpi_model.specs.declared.message.Receive.{Receive}
use Rattle.trace_ops.specs.Order.{Has}
use Rattle.trace_pair.specs.After.{comes_after}
use Rattle.trace_pair.specs.Followed.{Indexes}
use Rattle.trace_pair.specs.Pairing.{receive_of}
use Rattle.trace_pair.specs.Table.{pair_of, postponed_name}
use Rattle.trace_pair.proofs.rows.Rows.add_all.Given as goal

abbrev pub invariant-loop-m : goal.invariant-loop-m
invariant-loop-m l = record {
  pairs : (ms : List Message) (qs : List Receive) → Indexes (comes_after l.reaches) ms qs l.state → ((m : Message) → Has l.some m → Has ms m) →
      l.self.pairs ≡ l.initial.self.pairs ++ filter_map (λ m. option_map (pair_of m) (receive_of (comes_after l.reaches) ms qs m)) (take l.m-index l.some);
  postponed : (ms : List Message) (qs : List Receive) → Indexes (comes_after l.reaches) ms qs l.state → ((m : Message) → Has l.some m → Has ms m) →
      l.self.postponed ≡ l.initial.self.postponed ++ filter_map (postponed_name (comes_after l.reaches) ms qs) (take l.m-index l.some);
}
