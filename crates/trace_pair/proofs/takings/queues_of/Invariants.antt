use Rattle.std.proofs.Common.{◌≡◌, List, Option, take, true}
use Rattle.trace_pair.specs.KeyOrders.{queue_cmp, queue_of}
use Rattle.trace_pair.specs.Waiting.{ArePlaces, ArePlain}
use Rattle.trace_pair.specs.declared.pair.Taker.{Taker}
use Rattle.trace_pair.proofs.takings.queues_of.Given as goal

abbrev pub invariant-loop-place : goal.invariant-loop-place
invariant-loop-place l = record {
  places : (takers : List (Option Taker)) → ArePlaces queue_cmp queue_of (take l.place l.messages) takers l.queues;
  plain : l.plain ≡ true → ArePlain (take l.place l.messages);
}
