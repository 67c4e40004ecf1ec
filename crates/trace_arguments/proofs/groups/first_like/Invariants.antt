use Rattle.std.proofs.Common.{◌≡◌, None, take}
use Rattle.std.specs.List.{find}
use Rattle.trace_arguments.specs.Differing.{is_alike}
use Rattle.trace_arguments.proofs.groups.first_like.Given as goal

abbrev pub invariant-loop-other : goal.invariant-loop-other
invariant-loop-other l = find (λ w. is_alike l.line w l.value) (take l.other-index l.values) ≡ None
