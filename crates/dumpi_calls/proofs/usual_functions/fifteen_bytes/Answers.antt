use Rattle.std.proofs.Common.{sym, ◌∙◌}
use Rattle.dumpi_calls.proofs.UsualFunctions.{type_commit_by, comm_create_by, cart_create_by, cart_coords_by, dims_create_by}
use Rattle.dumpi_calls.proofs.usual_functions.fifteen_bytes.Goals as goal

pub returns-then-is-2 : goal.returns-then-is-2
returns-then-is-2 c = type_commit_by c.args.name.now (sym c.is-else-is.ensures ∙ c.if-is-2.true)

pub returns-then-is-4 : goal.returns-then-is-4
returns-then-is-4 c = comm_create_by c.args.name.now (sym c.is-else-is-3.ensures ∙ c.if-is-4.true)

pub returns-then-is-5 : goal.returns-then-is-5
returns-then-is-5 c = cart_create_by c.args.name.now (sym c.is-else-is-4.ensures ∙ c.if-is-5.true)

pub returns-then-is-6 : goal.returns-then-is-6
returns-then-is-6 c = cart_coords_by c.args.name.now (sym c.is-else-is-5.ensures ∙ c.if-is-6.true)

pub returns-then-is-7 : goal.returns-then-is-7
returns-then-is-7 c = dims_create_by c.args.name.now (sym c.is-else-is-6.ensures ∙ c.if-is-7.true)
