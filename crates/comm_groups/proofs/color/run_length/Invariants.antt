use Rattle.std.proofs.Common.{◌≡◌, take}
use Rattle.std.specs.List.{All}
use Rattle.comm_groups.proofs.color.run_length.Given as goal

abbrev pub invariant-loop-asked : goal.invariant-loop-asked
invariant-loop-asked l = record {
  counted : l.count ≡ l.asked-index;
  same : All (λ e. e.color ≡ l.color) (take l.asked-index l.rest);
}
