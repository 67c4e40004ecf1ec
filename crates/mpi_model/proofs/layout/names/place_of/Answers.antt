use Rattle.std.proofs.Common.{arith}
use Rattle.mpi_model.proofs.Starts.{length_part, parted_part, whole_point}
use Rattle.mpi_model.proofs.layout.names.place_of.Goals as goal

pub place_among-requires : goal.place_among-requires
place_among-requires c =
    let range = c.range_of-low.ensures.range in
    parted_part c.args.names.now c.requires.order c.range_of-low.result.0 c.range_of-low.result.1 c.args.rank c.args.number c.args.call range.0 range.1

pub returns-clause-point : goal.returns-clause-point
returns-clause-point c =
    let range = c.range_of-low.ensures.range in
    let long = length_part c.args.names.now c.range_of-low.result.0 c.range_of-low.result.1 range.0 range.1 in
    whole_point c.args.names.now c.range_of-low.result.0 c.range_of-low.result.1 c.place_among.result c.args.rank c.args.number c.args.call range.0 range.1
    c.range_of-low.ensures.before c.range_of-low.ensures.behind (omega (arith, long, c.place_among.ensures.bound)) c.place_among.ensures.point
