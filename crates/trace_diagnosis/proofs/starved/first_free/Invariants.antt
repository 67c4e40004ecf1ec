use Rattle.std.proofs.Common.{◌≡◌, ◌-◌, List, length, take, true}
use Rattle.std.specs.List.{list_all}
use Rattle.mpi_model.specs.declared.message.Receive.{Receive}
use Rattle.trace_pair.specs.After.{comes_after}
use Rattle.trace_pair.specs.Ends.{AreLast, may_take}
use Rattle.trace_diagnosis.proofs.starved.first_free.Given as goal

abbrev pub invariant-on : goal.invariant-on
invariant-on l = (free : List Receive) → AreLast free l.ends → list_all (may_take (comes_after l.reaches) free) (take l.from l.messages) ≡ true
    → list_all (may_take (comes_after l.reaches) free) (take l.at l.messages) ≡ true

abbrev pub decreases-on : goal.decreases-on
decreases-on l = length l.messages - l.at
