use Rattle.std.proofs.Common.{sym, ◌∙◌}
use Rattle.dumpi_calls.proofs.UsualFunctions.{comm_split_by, cart_shift_by, group_free_by, allgatherv_by}
use Rattle.dumpi_calls.proofs.usual_functions.fourteen_bytes.Goals as goal

pub returns-then-is : goal.returns-then-is
returns-then-is c = comm_split_by c.args.name.now (sym c.is.ensures ∙ c.if-is.true)

pub returns-then-is-2 : goal.returns-then-is-2
returns-then-is-2 c = cart_shift_by c.args.name.now (sym c.is-else-is.ensures ∙ c.if-is-2.true)

pub returns-then-is-3 : goal.returns-then-is-3
returns-then-is-3 c = group_free_by c.args.name.now (sym c.is-else-is-2.ensures ∙ c.if-is-3.true)

pub returns-then-is-5 : goal.returns-then-is-5
returns-then-is-5 c = allgatherv_by c.args.name.now (sym c.is-else-is-4.ensures ∙ c.if-is-5.true)
