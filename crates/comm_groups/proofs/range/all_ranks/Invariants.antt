use Rattle.std.proofs.Common.{◌≡◌, ◌≤◌, true, length, take}
use Rattle.std.specs.List.{flat_map, list_all}
use Rattle.comm_groups.specs.Ranges.{is_range, ranks_of}
use Rattle.comm_groups.proofs.range.all_ranks.Given as goal

abbrev pub invariant-loop-range : goal.invariant-loop-range
invariant-loop-range l = record {
  all : list_all is_range (take l.range-index l.ranges) ≡ true;
  ranks : l.ranks.items ≡ flat_map ranks_of (take l.range-index l.ranges);
  few : length l.ranks.items ≤ l.size;
}
