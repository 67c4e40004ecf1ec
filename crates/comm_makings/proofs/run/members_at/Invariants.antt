use Rattle.std.proofs.Common.{◌≡◌, take}
use Rattle.std.specs.List.{filter_map}
use Rattle.comm_makings.specs.Made.{member_at}
use Rattle.comm_makings.proofs.run.members_at.Given as goal

abbrev pub invariant-loop-place : goal.invariant-loop-place
invariant-loop-place l = l.chosen.items ≡ filter_map (member_at l.members l.all) (take l.place-index l.places)
