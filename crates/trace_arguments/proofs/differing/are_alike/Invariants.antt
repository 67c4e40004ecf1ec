use Rattle.std.proofs.Common.{◌≡◌, true, take}
use Rattle.std.specs.List.{list_all}
use Rattle.trace_arguments.specs.Differing.{is_alike}
use Rattle.trace_arguments.proofs.differing.are_alike.Given as goal

abbrev pub invariant-loop-other : goal.invariant-loop-other
invariant-loop-other l = list_all (is_alike l.line l.first) (take l.other-index l.others) ≡ true
