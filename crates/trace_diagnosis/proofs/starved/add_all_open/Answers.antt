use Rattle.std.proofs.Common.{List, arith, subst}
use Rattle.mpi_model.specs.declared.message.Receive.{Receive}
use Rattle.trace_pair.specs.Ends.{AreLast}
use Rattle.trace_diagnosis.specs.Listed.{opened}
use Rattle.trace_diagnosis.proofs.Fronting.{opened_next}
use Rattle.trace_diagnosis.proofs.starved.add_all_open.Goals as goal

pub loop-place-preserved : goal.loop-place-preserved
loop-place-preserved c =
    let qs = c.args.receives.now in
    let i = c.loop-place.place in
    subst (λ (l : List Receive). AreLast l c.add_open.new.ends) (opened_next qs i _ (omega (arith, c.loop-place-test.true, c.requires.bound))) (c.in_ok-add_open.ensures (opened qs i) c.loop-place.invariant)
