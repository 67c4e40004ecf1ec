-- Groups as the code has them.
use Rattle.std.specs.Prelude.{◌≡◌, ℕ, Option}
use Rattle.std.specs.Option.{option_map}
use Rattle.trace_ops.specs.declared.group.Group.{Group as Lent}
use Rattle.mpi_model.specs.declared.envelope.CommRef.TheVariants.{World}
use Rattle.mpi_model.specs.declared.object.Object.TheVariants.{Communicator}
use Rattle.mpi_model.specs.Layouts.{Parts}
use Rattle.trace_ops.specs.Foreign.{Group, group_named}

-- a group that is lent, as plain data
abbrev pub plain : Lent → Group
plain g = record { comm = g.comm; members = g.members.now; inter = g.inter }

-- the same, where there is one
abbrev pub plain_group : Option Lent → Option Group
plain_group g = option_map plain g

-- the group of the world, as all calls of a rank name it
abbrev pub IsWorldOf : Parts → ℕ → Option Lent → Type 0
IsWorldOf layout rank world = plain_group world ≡ group_named layout rank 0 Communicator World
