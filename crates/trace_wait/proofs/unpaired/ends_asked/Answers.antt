use Rattle.std.proofs.Common.{List, ap, subst, take, ◌++◌, ◌∙◌}
use Rattle.std.specs.Prelude.{filter}
use Rattle.mpi_model.specs.declared.message.Receive.{Receive}
use Rattle.trace_ops.specs.Ops.{Ops}
use Rattle.trace_pair.specs.Ends.{AreLast}
use Rattle.trace_wait.specs.Matching.{free_receives, is_free}
use Rattle.trace_wait.proofs.Free.{more_ranks}
use Rattle.trace_wait.proofs.unpaired.ends_asked.Goals as goal

pub loop-o-preserved : goal.loop-o-preserved
loop-o-preserved c =
    let pairs = c.args.pairs.now in
    let ops = c.args.ops.now in
    let i = c.loop-o.o-index in
    let first = free_receives (take i ops) pairs in
    subst (λ (l : List Receive). AreLast l c.ask_all.new.asked) (more_ranks pairs ops i c.o-item.result c.loop-o-test.true)
    (subst (λ (qs : List Receive). AreLast (first ++ filter (is_free pairs) qs) c.ask_all.new.asked) (c.receives.ensures ∙ ap (λ (o : Ops). o.receives) c.o-item.is)
    (c.in_ok-ask_all.ensures first c.loop-o.invariant))
