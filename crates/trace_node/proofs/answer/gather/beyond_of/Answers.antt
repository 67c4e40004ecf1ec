use Rattle.std.proofs.Common.{Bool, ◌++◌, ◌∷◌, [], map, ap, sym, ◌∙◌, List, arith}
use Rattle.std.specs.List.{range_with_len}
use Rattle.std.proofs.lemmas.List.FromFn.{map-range_with_len_more}
use Rattle.trace_know.specs.Prefix.{is_beyond}
use Rattle.trace_node.proofs.answer.gather.beyond_of.Goals as goal

pub loop-rank-preserved : goal.loop-rank-preserved
loop-rank-preserved c =
    let more = map-range_with_len_more (is_beyond c.args.know.now) 0 c.loop-rank.rank c.loop-rank.rank (omega arith) in
    c.in_ok-push.ensures.items ∙ ap (λ (l : List Bool). l ++ c.beyond.result ∷ []) c.loop-rank.invariant
    ∙ ap (λ (n : Bool). map (is_beyond c.args.know.now) (range_with_len 0 c.loop-rank.rank) ++ n ∷ []) c.beyond.ensures ∙ sym more
