-- Calls of which nothing is compared.
use Rattle.std.proofs.Common.{◌≡◌, Bool, true, false, refl}
use Rattle.std.specs.Prelude.{◌||◌}
use Rattle.mpi_model.specs.declared.kind.Kind.{Kind}
use Rattle.dumpi_text.specs.Call.{TextCall}
use Rattle.call_arguments.specs.Known.{is_empty}
use Rattle.call_arguments.specs.Table.{compared_of, compares_counts, is_compared}
use Rattle.call_arguments.specs.Told.{told_by, told_of}
use Rattle.call_arguments.specs.declared.table.Rule.{Rule}
use Rattle.call_arguments.specs.declared.table.Rule.TheVariants.{Nothing, Alike, Rooted, Listed}

-- where no line is compared, nothing is told
nothing_by : (operation : Bool) (rule : Rule) (raw : TextCall)
    → (operation || compares_counts rule) ≡ false → is_empty (told_by (record { operation = operation; counts = rule }) raw) ≡ true
nothing_by false Nothing raw e = refl
nothing_by false (Alike p) raw e = cc
nothing_by false (Rooted p q) raw e = cc
nothing_by false (Listed p q) raw e = cc
nothing_by true rule raw e = cc

-- A call of a kind of which nothing is compared tells nothing.
pub nothing_told : (kind : Kind) (raw : TextCall) → is_compared kind ≡ false → is_empty (told_of kind raw) ≡ true
nothing_told kind raw e = nothing_by (compared_of kind).operation (compared_of kind).counts raw e
