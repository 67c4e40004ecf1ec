-- Calls in order of their names.
use Rattle.std.specs.Prelude.{◌≡◌, true, List, [], ◌∷◌}
use Rattle.mpi_model.specs.declared.event.OpName.{OpName}
use Rattle.trace_ops.specs.Order.{Has}
use Rattle.trace_pair.specs.Indexed.{name_lt}

-- Each name is below those that follow.
abbrev pub AreRising : {X : Type 0} → (X → OpName) → List X → Type 0
AreRising name [] = Unit {0}
AreRising {X} name (x ∷ xs) = ((y : X) → Has xs y → name_lt (name x) (name y) ≡ true) × AreRising name xs
