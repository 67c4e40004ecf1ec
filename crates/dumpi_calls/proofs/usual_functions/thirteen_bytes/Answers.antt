use Rattle.std.proofs.Common.{sym, ◌∙◌}
use Rattle.dumpi_calls.proofs.UsualFunctions.{comm_rank_by, comm_size_by, allreduce_by, allgather_by, alltoallv_by, get_count_by, pack_size_by}
use Rattle.dumpi_calls.proofs.usual_functions.thirteen_bytes.Goals as goal

pub returns-then-is : goal.returns-then-is
returns-then-is c = comm_rank_by c.args.name.now (sym c.is.ensures ∙ c.if-is.true)

pub returns-then-is-2 : goal.returns-then-is-2
returns-then-is-2 c = comm_size_by c.args.name.now (sym c.is-else-is.ensures ∙ c.if-is-2.true)

pub returns-then-is-5 : goal.returns-then-is-5
returns-then-is-5 c = allreduce_by c.args.name.now (sym c.is-else-is-4.ensures ∙ c.if-is-5.true)

pub returns-then-is-6 : goal.returns-then-is-6
returns-then-is-6 c = allgather_by c.args.name.now (sym c.is-else-is-5.ensures ∙ c.if-is-6.true)

pub returns-then-is-7 : goal.returns-then-is-7
returns-then-is-7 c = alltoallv_by c.args.name.now (sym c.is-else-is-6.ensures ∙ c.if-is-7.true)

pub returns-then-is-8 : goal.returns-then-is-8
returns-then-is-8 c = get_count_by c.args.name.now (sym c.is-else-is-7.ensures ∙ c.if-is-8.true)

pub returns-then-is-9 : goal.returns-then-is-9
returns-then-is-9 c = pack_size_by c.args.name.now (sym c.is-else-is-8.ensures ∙ c.if-is-9.true)
