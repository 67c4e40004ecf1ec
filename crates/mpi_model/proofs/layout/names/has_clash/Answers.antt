use Rattle.std.proofs.Common.{◌-◌, arith, sym}
use Rattle.mpi_model.specs.Names.{clashes}
use Rattle.mpi_model.proofs.Names.{apart_all, more_apart, no_name}
use Rattle.mpi_model.proofs.Pairs.{pair_at}
use Rattle.mpi_model.proofs.layout.names.has_clash.Goals as goal

pub returns-then-clashes : goal.returns-then-clashes
returns-then-clashes c = sym (pair_at clashes c.args.names.now (c.loop-i.i - 1) c.loop-i.i no_name (omega arith) (omega arith) cc)

pub loop-i-preserved : goal.loop-i-preserved
loop-i-preserved c = more_apart c.args.names.now c.loop-i.i (omega arith) (omega arith) c.loop-i.invariant cc

pub returns : goal.returns
returns c = sym (apart_all c.args.names.now c.requires.order c.requires.calls (λ k d lt. c.loop-i.invariant k d (omega arith)))
