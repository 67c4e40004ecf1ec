use Rattle.std.proofs.Common.{Bool, ◌++◌, ◌∷◌, [], map, ap, sym, ◌∙◌, List, arith}
use Rattle.std.specs.List.{range_with_len}
use Rattle.std.proofs.lemmas.List.FromFn.{map-range_with_len_more}
use Rattle.trace_know.specs.Prefix.{is_unread}
use Rattle.trace_node.proofs.answer.gather.unread_of.Goals as goal

pub loop-rank-preserved : goal.loop-rank-preserved
loop-rank-preserved c =
    let more = map-range_with_len_more (is_unread c.args.know.now) 0 c.loop-rank.rank c.loop-rank.rank (omega arith) in
    c.in_ok-push.ensures.items ∙ ap (λ (l : List Bool). l ++ c.is_unread.result ∷ []) c.loop-rank.invariant
    ∙ ap (λ (n : Bool). map (is_unread c.args.know.now) (range_with_len 0 c.loop-rank.rank) ++ n ∷ []) c.is_unread.ensures ∙ sym more
