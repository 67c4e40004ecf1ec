use Rattle.std.proofs.Common.{ℕ, ◌++◌, ◌∷◌, [], map, ap, sym, ◌∙◌, List, arith}
use Rattle.std.specs.List.{range_with_len}
use Rattle.std.proofs.lemmas.List.FromFn.{map-range_with_len_more}
use Rattle.trace_wait.specs.Ranks.{ops_of}
use Rattle.trace_node.specs.Answer.{wall_of}
use Rattle.trace_node.specs.ByRank.{entered_by}
use Rattle.trace_node.proofs.answer.gather.walls_of.Goals as goal

pub loop-rank-preserved : goal.loop-rank-preserved
loop-rank-preserved c =
    let entered : ℕ → ℕ = λ r. entered_by c.args.know.now r (ops_of c.args.ops.now r) in
    let more = map-range_with_len_more entered 0 c.loop-rank.rank c.loop-rank.rank (omega arith) in
    c.in_ok-push.ensures.items ∙ ap (λ (l : List ℕ). l ++ c.wall_of.result ∷ []) c.loop-rank.invariant
    ∙ ap (λ (n : ℕ). map entered (range_with_len 0 c.loop-rank.rank) ++ n ∷ []) (c.wall_of.ensures ∙ ap (wall_of c.args.know.now c.loop-rank.rank) c.call_of.ensures) ∙ sym more
