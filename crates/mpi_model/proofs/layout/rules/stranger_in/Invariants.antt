use Rattle.std.proofs.Common.{◌≡◌, drop}
use Rattle.mpi_model.specs.Layouts.{has_stranger}
use Rattle.mpi_model.proofs.layout.rules.stranger_in.Given as goal

abbrev pub invariant-loop-member : goal.invariant-loop-member
invariant-loop-member l = has_stranger l.ranks (drop l.member-index l.members) ≡ has_stranger l.ranks l.members
