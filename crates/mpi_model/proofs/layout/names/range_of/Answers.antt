use Rattle.std.proofs.Common.{◌+◌, arith}
use Rattle.mpi_model.proofs.Names.{no_name}
use Rattle.mpi_model.proofs.Starts.{starts_rise}
use Rattle.mpi_model.proofs.layout.names.range_of.Goals as goal

pub returns-then-at-starts-clause-range : goal.returns-then-at-starts-clause-range
returns-then-at-starts-clause-range c =
    let here = c.requires c.args.rank (omega arith) in
    let next = c.requires (c.args.rank + 1) (omega arith) in
    (starts_rise c.args.names.now c.args.rank _ _ here next no_name, next.within)
