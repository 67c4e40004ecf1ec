use Rattle.std.proofs.Common.{sym, ◌∙◌}
use Rattle.dumpi_calls.proofs.UsualFunctions.{waitany_by, gatherv_by}
use Rattle.dumpi_calls.proofs.usual_functions.eleven_bytes.Goals as goal

pub returns-then-is-4 : goal.returns-then-is-4
returns-then-is-4 c = waitany_by c.args.name.now (sym c.is-else-is-3.ensures ∙ c.if-is-4.true)

pub returns-then-is-6 : goal.returns-then-is-6
returns-then-is-6 c = gatherv_by c.args.name.now (sym c.is-else-is-5.ensures ∙ c.if-is-6.true)
