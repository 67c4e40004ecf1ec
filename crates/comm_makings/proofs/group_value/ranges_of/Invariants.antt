use Rattle.std.proofs.Common.{◌≡◌, ◌++◌, drop, option_map}
use Rattle.comm_makings.specs.Groups.{ranges_of}
use Rattle.comm_makings.proofs.group_value.ranges_of.Given as goal

abbrev pub invariant-loop-range : goal.invariant-loop-range
invariant-loop-range l = option_map (λ rs. l.all.items ++ rs) (ranges_of (drop l.range-index l.ranges)) ≡ ranges_of l.ranges
