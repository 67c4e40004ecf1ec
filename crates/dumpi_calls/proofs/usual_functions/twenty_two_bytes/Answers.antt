use Rattle.std.proofs.Common.{sym, ◌∙◌}
use Rattle.dumpi_calls.proofs.UsualFunctions.{type_create_struct_by}
use Rattle.dumpi_calls.proofs.usual_functions.twenty_two_bytes.Goals as goal

pub returns-then-is : goal.returns-then-is
returns-then-is c = type_create_struct_by c.args.name.now (sym c.is.ensures ∙ c.if-is.true)
