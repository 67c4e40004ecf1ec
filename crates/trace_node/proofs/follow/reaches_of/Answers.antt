use Rattle.std.proofs.Common.{◌++◌, ◌∷◌, [], map, ap, sym, ◌∙◌, List, arith}
use Rattle.std.specs.List.{range_with_len}
use Rattle.std.proofs.lemmas.List.FromFn.{map-range_with_len_more}
use Rattle.trace_node.specs.Following.{reach_of}
use Rattle.trace_node.specs.declared.follow.Reach.{Reach}
use Rattle.trace_node.proofs.follow.reaches_of.Goals as goal

pub loop-rank-preserved : goal.loop-rank-preserved
loop-rank-preserved c =
    let more = map-range_with_len_more (reach_of c.args.know.now) 0 c.loop-rank.rank c.loop-rank.rank (omega arith) in
    c.in_ok-push.ensures.items ∙ ap (λ (l : List Reach). l ++ c.reach_of.result ∷ []) c.loop-rank.invariant
    ∙ ap (λ (r : Reach). map (reach_of c.args.know.now) (range_with_len 0 c.loop-rank.rank) ++ r ∷ []) c.reach_of.ensures ∙ sym more
