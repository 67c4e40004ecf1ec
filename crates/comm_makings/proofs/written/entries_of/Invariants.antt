use Rattle.std.proofs.Common.{◌≡◌, map, take}
use Rattle.comm_makings.specs.Written.{entry_of}
use Rattle.comm_makings.proofs.written.entries_of.Given as goal

abbrev pub invariant-loop-member : goal.invariant-loop-member
invariant-loop-member l = l.entries.items ≡ map (entry_of l.views l.uses l.object) (take l.member-index l.members)
