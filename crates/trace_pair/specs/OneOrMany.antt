-- One member, or a set of them, as a set.
use Rattle.std.specs.Prelude.{[], ◌∷◌}
use Rattle.std.specs.BTreeSet.{BTreeSet}
use Rattle.trace_pair.specs.declared.one_or_many.OneOrMany.{OneOrMany}
use Rattle.trace_pair.specs.declared.one_or_many.OneOrMany.TheVariants.{One, Many}

-- the one item or the many as a set
abbrev pub set_of : {T : Type 0} → OneOrMany T → BTreeSet T
set_of (One x) = record { keys = x ∷ [] }
set_of (Many s) = s
