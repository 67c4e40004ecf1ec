use Rattle.std.proofs.Common.{sym, ◌∙◌}
use Rattle.dumpi_calls.proofs.UsualFunctions.{type_contiguous_by, type_match_size_by}
use Rattle.dumpi_calls.proofs.usual_functions.nineteen_bytes.Goals as goal

pub returns-then-is : goal.returns-then-is
returns-then-is c = type_contiguous_by c.args.name.now (sym c.is.ensures ∙ c.if-is.true)

pub returns-then-is-2 : goal.returns-then-is-2
returns-then-is-2 c = type_match_size_by c.args.name.now (sym c.is-else-is.ensures ∙ c.if-is-2.true)
