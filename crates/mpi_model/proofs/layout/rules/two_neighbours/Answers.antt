use Rattle.std.proofs.Common.{◌-◌, arith, sym}
use Rattle.mpi_model.proofs.Neighbours.{doubled, single}
use Rattle.mpi_model.proofs.layout.rules.two_neighbours.Goals as goal

pub returns-then-numbers-i : goal.returns-then-numbers-i
returns-then-numbers-i c = sym (doubled c.args.numbers.now (c.loop-i.i - 1) (omega arith) (grind arith))

pub returns : goal.returns
returns c = sym (single c.args.numbers.now c.requires (λ k lt. c.loop-i.invariant k (omega arith)))
