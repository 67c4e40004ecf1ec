use Rattle.std.proofs.Common.{List, subst, ◌++◌, take}
use Rattle.std.specs.Prelude.{filter}
use Rattle.mpi_model.specs.declared.message.Receive.{Receive}
use Rattle.trace_pair.specs.Ends.{AreLast}
use Rattle.trace_wait.specs.Matching.{is_free}
use Rattle.trace_wait.proofs.Free.{more_free}
use Rattle.trace_wait.proofs.unpaired.ask_all.Goals as goal

pub loop-q-preserved : goal.loop-q-preserved
loop-q-preserved c = λ before last.
    let pairs = c.args.pairs.now in
    let qs = c.args.receives.now in
    let i = c.loop-q.q-index in
    subst (λ (l : List Receive). AreLast l c.ask_unpaired.new.asked) (more_free pairs before qs i _ c.loop-q-test.true)
    (c.in_ok-ask_unpaired.ensures (before ++ filter (is_free pairs) (take i qs)) (c.loop-q.invariant before last))
