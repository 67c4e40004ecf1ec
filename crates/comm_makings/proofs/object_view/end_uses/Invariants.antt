use Rattle.std.proofs.Common.{◌≡◌, take}
use Rattle.comm_makings.specs.Objects.{end_uses}
use Rattle.comm_makings.proofs.object_view.end_uses.Given as goal

abbrev pub invariant-loop-call : goal.invariant-loop-call
invariant-loop-call l = l.uses.items ≡ end_uses l.object (take l.call-index l.calls)
