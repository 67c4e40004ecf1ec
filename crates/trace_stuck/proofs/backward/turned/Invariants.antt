use Rattle.std.proofs.Common.{◌≡◌, vec_len, length}
use Rattle.trace_stuck.proofs.TurnedRound.{IsTurnedBelow}
use Rattle.trace_stuck.proofs.backward.turned.Given as goal

abbrev pub invariant-loop-r : goal.invariant-loop-r
invariant-loop-r l = record {
  len : vec_len l.turned ≡ length l.edges;
  below : IsTurnedBelow l.edges l.r l.turned.items;
}
