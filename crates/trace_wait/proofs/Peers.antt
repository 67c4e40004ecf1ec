-- Whom a rank names on a communicator of one group.
use Rattle.std.proofs.Common.{◌≡◌, ℕ, Bool, false, List, [], Option, Some, None, refl, ap}
use Rattle.std.specs.Prelude.{unwrap_or, if◌then◌else◌}
use Rattle.std.specs.Option.{option_map}
use Rattle.mpi_model.specs.Communicators.{Communicator, first_group, is_among, is_intercomm, is_some_inter, members_of, one_of, peers, peers_of, second_group}

-- there the peers of each rank are all members
pub one_group : (gs : List Communicator) (c rank : ℕ) → is_intercomm gs c ≡ false → unwrap_or (peers_of gs c rank) [] ≡ unwrap_or (members_of gs c) []
one_group gs c rank h = by (one_of gs c) h
  where
    by : (o : Option Communicator) → is_some_inter o ≡ false → unwrap_or (option_map (peers rank) o) [] ≡ unwrap_or (option_map (λ (g : Communicator). g.members) o) []
    by None h = refl
    by (Some g) h = ap (λ (two : Bool). if two then (if is_among rank (first_group g) then second_group g else first_group g) else g.members) h
