-- One of the communicators that a making makes.
use Rattle.std.specs.Prelude.{ℕ, List, Option}

-- A communicator by its members' places in the parent, in the order of their new ranks, and the sizes of its
-- dimensions, where it is a grid and they are known.
pub record Selection : Type 0 where
  pub places : List ℕ
  pub dims : Option (List ℕ)
