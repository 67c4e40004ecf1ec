use Rattle.std.proofs.Common.{◌≡◌, ◌<◌, ◌++◌, map, length}
use Rattle.std.specs.List.{All, flat_map}
use Rattle.std.specs.List.Sorted.{IsNonDecreasingBy, IsStrictlyIncreasing}
use Rattle.comm_groups.specs.Splits.{colored}
use Rattle.comm_groups.proofs.color.groups_of.Given as goal

abbrev pub invariant-loop-first : goal.invariant-loop-first
invariant-loop-first l = record {
  all : flat_map colored l.groups.items ++ map (λ e. (e.color, e.rank)) l.rest ≡ map (λ e. (e.color, e.rank)) l.order;
  sorted : IsNonDecreasingBy (λ e. e.color) l.rest;
  below : All (λ g. All (λ e. g.color < e.color) l.rest) l.groups.items;
  some : All (λ g. 0 < length g.ranks) l.groups.items;
  rising : IsStrictlyIncreasing (map (λ g. g.color) l.groups.items);
}

abbrev pub decreases-loop-first : goal.decreases-loop-first
decreases-loop-first l = length l.rest
