use Rattle.std.proofs.Common.{take}
use Rattle.comm_makings.specs.Made.{IsFirstOf}
use Rattle.comm_makings.proofs.run.first_returned.Given as goal

abbrev pub invariant-loop-place : goal.invariant-loop-place
invariant-loop-place l = IsFirstOf (take l.place-index l.places) l.all l.first
