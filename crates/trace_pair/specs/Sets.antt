-- Lists read as sets, as an element comes or goes.
use Rattle.std.specs.Prelude.{◌≡◌, List, ◌⊎◌}
use Rattle.trace_ops.specs.Order.{Has}

-- the elements of `new` are those of `old`, and x
pub record AddsTo {X : Type 0} (old new : List X) (x : X) : Type 0 where
  pub keeps : (y : X) → Has old y → Has new y
  pub added : Has new x
  pub cases : (y : X) → Has new y → Has old y ⊎ (y ≡ x)

-- the elements of `new` are those of `old`, but x
pub record DropsFrom {X : Type 0} (old new : List X) (x : X) : Type 0 where
  pub keeps : (y : X) → Has old y → Has new y ⊎ (y ≡ x)
  pub dropped : Has new x → ⊥
  pub was : (y : X) → Has new y → Has old y

-- the elements of `new` are those of `old`
pub record IsSameSet {X : Type 0} (old new : List X) : Type 0 where
  pub keeps : (y : X) → Has old y → Has new y
  pub was : (y : X) → Has new y → Has old y
