use Rattle.std.proofs.Common.{◌++◌, ◌∷◌, [], map, ap, sym, ◌∙◌, List, arith}
use Rattle.std.specs.List.{range_with_len}
use Rattle.std.proofs.lemmas.List.FromFn.{map-range_with_len_more}
use Rattle.trace_ops.specs.Ops.{Ops}
use Rattle.trace_ops.specs.RankOps.{ops_of}
use Rattle.trace_ops.proofs.ops.gather.all_ops.Goals as goal

pub loop-rank-preserved : goal.loop-rank-preserved
loop-rank-preserved c =
    let more = map-range_with_len_more (ops_of c.args.layout.now c.args.know.now) 0 c.loop-rank.rank c.loop-rank.rank (omega arith) in
    c.in_ok-push.ensures.items ∙ ap (λ (l : List Ops). l ++ c.in_ok-ops_of.field-0 ∷ []) c.loop-rank.invariant
    ∙ ap (λ (o : Ops). map (ops_of c.args.layout.now c.args.know.now) (range_with_len 0 c.loop-rank.rank) ++ o ∷ []) c.in_ok-ops_of.ensures ∙ sym more
