-- What a node is to a caller.
use Rattle.std.specs.Prelude.{ℕ, ◌<◌, ◌≤◌, Bool, IsSome}
use Rattle.mpi_model.specs.Layouts.{Parts}
use Rattle.trace_know.specs.View.{View, cell, join}

-- What a node holds: its layout, all that is known, and whether its answer was dropped. The answer of a node that isn't
-- stale is left out: it is that of the other two.
pub record Held : Type 0 where
  pub layout : Parts
  pub know : View
  pub is_stale : Bool

-- what a node holds
abbrev pub held : Parts → View → Bool → Held
held layout know is_stale = record { layout = layout; know = know; is_stale = is_stale }

-- what a node holds once it knows this too
abbrev pub held_with : Held → View → Bool → Held
held_with old more is_stale = held old.layout (join old.know more) is_stale

-- something is known of a rank that the layout doesn't have
abbrev pub HasStranger : Parts → View → Type 0
HasStranger layout view = (rank place : ℕ) × (layout.ranks ≤ rank) × IsSome (cell view rank place)

-- something is known of ranks of the layout alone
abbrev pub IsWithin : Parts → View → Type 0
IsWithin layout view = (rank place : ℕ) → IsSome (cell view rank place) → rank < layout.ranks
