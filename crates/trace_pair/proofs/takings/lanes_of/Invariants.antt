use Rattle.std.proofs.Common.{List, Option, take}
use Rattle.trace_pair.specs.KeyOrders.{lane_cmp, lane_of}
use Rattle.trace_pair.specs.Waiting.{ArePlaces}
use Rattle.trace_pair.specs.declared.pair.Taker.{Taker}
use Rattle.trace_pair.proofs.takings.lanes_of.Given as goal

abbrev pub invariant-loop-place : goal.invariant-loop-place
invariant-loop-place l = (takers : List (Option Taker)) → ArePlaces lane_cmp lane_of (take l.place l.messages) takers l.lanes
