-- Where what is known can stand.
use Rattle.std.specs.Prelude.{◌≡◌, ℕ, ◌+◌, ◌%◌, ◌^◌, ◌<◌, ⊤, Some, IsSome, List, [], ◌∷◌}
use Rattle.std.specs.declared.cmp.Ordering.TheVariants.{Less}
use Rattle.mpi_model.specs.declared.event.Event.TheVariants.{Enter, Return}
use Rattle.trace_know.specs.declared.cell.Known.{Known}
use Rattle.trace_know.specs.declared.segment.TheConstants.{PLACES}
use Rattle.trace_know.specs.declared.cell.Known.TheVariants.{One, Contradiction}
use Rattle.trace_know.specs.View.{View, place_cmp, cell}

-- An Enter stands at an even place and a Return at an odd one.
abbrev pub IsHalfOf : ℕ → Known → Type 0
IsHalfOf place (One (Enter call stamp)) = place % 2 ≡ 0
IsHalfOf place (One (Return outs stamp)) = place % 2 ≡ 1
IsHalfOf place Contradiction = ⊤

-- what is known stands at a place that a trace can have
pub record IsPlaced (rank place : ℕ) (known : Known) : Type 0 where
  pub ranks : rank < 2 ^ 32
  pub places : place < PLACES
  pub half : IsHalfOf place known

-- what holds of the view of every knowledge
pub record IsKnowledge (view : View) : Type 0 where
  pub placed : (rank place : ℕ) (known : Known) → cell view rank place ≡ Some known → IsPlaced rank place known

-- cells of a rank from a place on, each where it can stand
abbrev pub ArePlaced : ℕ → ℕ → List Known → Type 0
ArePlaced rank place [] = ⊤
ArePlaced rank place (known ∷ cells) = IsPlaced rank place known × ArePlaced rank (place + 1) cells

-- all that is known stands before a place
abbrev pub IsPast : View → ℕ → ℕ → Type 0
IsPast view rank place = (r p : ℕ) → IsSome (cell view r p) → place_cmp (r, p) (rank, place) ≡ Less
