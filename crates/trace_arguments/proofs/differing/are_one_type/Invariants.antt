use Rattle.std.proofs.Common.{◌≡◌, true, take}
use Rattle.std.specs.List.{list_all}
use Rattle.trace_arguments.specs.Differing.{is_one_type}
use Rattle.trace_arguments.proofs.differing.are_one_type.Given as goal

abbrev pub invariant-loop-other : goal.invariant-loop-other
invariant-loop-other l = list_all (is_one_type l.first) (take l.other-index l.others) ≡ true
