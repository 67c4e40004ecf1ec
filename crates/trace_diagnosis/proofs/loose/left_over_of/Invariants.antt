use Rattle.std.proofs.Common.{◌≡◌, List, filter, take}
use Rattle.mpi_model.specs.declared.message.Receive.{Receive}
use Rattle.trace_pair.specs.Ends.{AreLast}
use Rattle.trace_diagnosis.specs.LeftOver.{is_left_beside}
use Rattle.trace_diagnosis.proofs.loose.left_over_of.Given as goal

abbrev pub invariant-loop-m : goal.invariant-loop-m
invariant-loop-m l = (free : List Receive) → AreLast free l.ends → l.left.items ≡ filter (is_left_beside l.reaches free) (take l.m-index l.messages)
