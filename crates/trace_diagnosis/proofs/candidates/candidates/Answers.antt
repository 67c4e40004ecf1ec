use Rattle.std.proofs.Common.{◌∙◌, ◌++◌, List, ap, map}
use Rattle.mpi_model.specs.declared.message.Receive.{Receive}
use Rattle.trace_ops.specs.Ops.{Ops}
use Rattle.trace_wait.specs.Ranks.{ops_of}
use Rattle.trace_diagnosis.specs.Askers.{asker}
use Rattle.trace_diagnosis.specs.Starving.{candidates_at, candidates_by}
use Rattle.trace_diagnosis.proofs.Listing.{range_next}
use Rattle.trace_diagnosis.proofs.candidates.candidates.Goals as goal

pub loop-rank-preserved : goal.loop-rank-preserved
loop-rank-preserved c =
    let layout = c.args.layout.now in
    let ops = c.args.ops.now in
    let pairs = c.args.pairs.now in
    let r = c.loop-rank.rank in
    let found = c.loop-rank.found.items in
    range_next (candidates_at layout ops pairs (map asker c.args.pollers.now)) _ _ r c.loop-rank.invariant
    (c.in_ok-push_of_rank.ensures
    ∙ ap (λ (o : Ops). found ++ candidates_by layout pairs r o c.polled_at-polls.result.now) c.ops_at-own.ensures
    ∙ ap (λ (l : List Receive). found ++ candidates_by layout pairs r (ops_of ops r) l) (c.polled_at-polls.ensures ∙ c.in_ok-polled.ensures r))
