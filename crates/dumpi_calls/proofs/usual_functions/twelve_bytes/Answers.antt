use Rattle.std.proofs.Common.{sym, ◌∙◌}
use Rattle.dumpi_calls.proofs.UsualFunctions.{waitsome_by, testsome_by, sendrecv_by, scatterv_by, comm_dup_by, cart_sub_by}
use Rattle.dumpi_calls.proofs.usual_functions.twelve_bytes.Goals as goal

pub returns-then-is : goal.returns-then-is
returns-then-is c = waitsome_by c.args.name.now (sym c.is.ensures ∙ c.if-is.true)

pub returns-then-is-2 : goal.returns-then-is-2
returns-then-is-2 c = testsome_by c.args.name.now (sym c.is-else-is.ensures ∙ c.if-is-2.true)

pub returns-then-is-3 : goal.returns-then-is-3
returns-then-is-3 c = sendrecv_by c.args.name.now (sym c.is-else-is-2.ensures ∙ c.if-is-3.true)

pub returns-then-is-5 : goal.returns-then-is-5
returns-then-is-5 c = scatterv_by c.args.name.now (sym c.is-else-is-4.ensures ∙ c.if-is-5.true)

pub returns-then-is-6 : goal.returns-then-is-6
returns-then-is-6 c = comm_dup_by c.args.name.now (sym c.is-else-is-5.ensures ∙ c.if-is-6.true)

pub returns-then-is-7 : goal.returns-then-is-7
returns-then-is-7 c = cart_sub_by c.args.name.now (sym c.is-else-is-6.ensures ∙ c.if-is-7.true)
