use Rattle.std.proofs.Common.{◌≡◌}
use Rattle.comm_makings.proofs.by_groups.note_left.Given as goal

abbrev pub invariant-loop-offer : goal.invariant-loop-offer
invariant-loop-offer l = l.found.made ≡ l.initial.found.made
