use Rattle.std.proofs.Common.{◌≡◌, false}
use Rattle.run_inputs.specs.Looks.{any_below, begins_call}
use Rattle.run_inputs.proofs.load.first_look.has_call.Given as goal

abbrev pub invariant-loop-i : goal.invariant-loop-i
invariant-loop-i l = any_below l.i (begins_call l.front) ≡ false
