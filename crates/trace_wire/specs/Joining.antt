-- Knowledge that is joined in levels.
use Rattle.std.specs.Prelude.{List, [], ◌∷◌}
use Rattle.std.specs.FinMap.{empty}
use Rattle.trace_know.specs.View.{View, join}
use Rattle.trace_wire.specs.declared.packed.joining.Level.{Level}

-- what all levels tell together
abbrev pub joined : List Level → View
joined [] = empty
joined (level ∷ levels) = join level.know (joined levels)
