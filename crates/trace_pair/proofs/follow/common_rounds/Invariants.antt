use Rattle.std.proofs.Common.{◌≤◌, ◌-◌, length, take}
use Rattle.std.specs.List.{AllZip}
use Rattle.trace_pair.specs.Fronts.{IsAlike}
use Rattle.trace_pair.proofs.follow.common_rounds.Given as goal

abbrev pub invariant-loop-i : goal.invariant-loop-i
invariant-loop-i l = record {
  first : l.i ≤ length l.a;
  second : l.i ≤ length l.b;
  alike : AllZip IsAlike (take l.i l.a) (take l.i l.b);
}

abbrev pub decreases-loop-i : goal.decreases-loop-i
decreases-loop-i l = length l.b - l.i
