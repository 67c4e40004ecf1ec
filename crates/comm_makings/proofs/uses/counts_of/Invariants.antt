use Rattle.std.proofs.Common.{◌≡◌, length, take}
use Rattle.comm_makings.specs.Each.{EachIs}
use Rattle.comm_makings.specs.Uses.{count_of}
use Rattle.comm_makings.proofs.uses.counts_of.Given as goal

abbrev pub invariant-loop-group : goal.invariant-loop-group
invariant-loop-group l = record {
  counts : EachIs l.counts.items (count_of (take l.group-index l.held));
  each : length l.counts.items ≡ l.handles;
}
