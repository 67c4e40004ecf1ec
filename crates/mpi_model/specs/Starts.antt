-- Where the names of each rank begin, in names by rank.
use Rattle.std.specs.Prelude.{ℕ, ◌<◌, ◌≤◌, List, length, slice_index}
use Rattle.std.specs.List.{AllWithin}
use Rattle.mpi_model.specs.declared.layout.names.Name.{Name}
use Rattle.mpi_model.specs.declared.object.Object.{Object}
use Rattle.mpi_model.specs.Communicators.{Communicator}
use Rattle.mpi_model.specs.Names.{AreNames}

-- all names before the place are of lower ranks, and all others aren't
pub record IsStart (names : List Name) (rank place : ℕ) : Type 0 where
  pub within : place ≤ length names
  pub before : AllWithin (λ x. x.rank < rank) names 0 place
  pub behind : AllWithin (λ x. rank ≤ x.rank) names place (length names)

-- the starts of the ranks from 0 on
abbrev pub AreStarts : List Name → List ℕ → Type 0
AreStarts names starts = (rank : ℕ) → rank < length starts → IsStart names rank (slice_index starts rank)

-- the names of the objects of a sort, and their starts
pub record AreNumbered (object : Object) (gs : List Communicator) (names : List Name) (starts : List ℕ) : Type 0 where
  pub names_are : AreNames object gs names
  pub starts_are : AreStarts names starts
