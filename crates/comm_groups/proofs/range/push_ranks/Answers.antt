use Rattle.std.proofs.Common.{◌≡◌, ℕ, List, [], ◌∷◌, ◌++◌, map, arith, ap, sym, ◌∙◌, append_assoc}
use Rattle.std.specs.List.{range_with_len}
use Rattle.std.proofs.lemmas.List.FromFn.{map-range_with_len_more}
use Rattle.comm_groups.specs.Ranges.{rank_of}
use Rattle.comm_groups.proofs.range.push_ranks.Goals as goal

pub loop-k-preserved : goal.loop-k-preserved
loop-k-preserved c =
    let f : ℕ → ℕ = rank_of c.args.range in
    let before : List ℕ = c.args.ranks.now.items in
    c.in_ok-push.ensures.items
    ∙ ap (λ (x : ℕ). c.loop-k.ranks.items ++ x ∷ []) c.rank_at.ensures
    ∙ ap (λ (l : List ℕ). l ++ f c.loop-k.k ∷ []) c.loop-k.invariant
    ∙ append_assoc before (map f (range_with_len 0 c.loop-k.k)) (f c.loop-k.k ∷ [])
    ∙ ap (λ (l : List ℕ). before ++ l) (sym (map-range_with_len_more f 0 c.loop-k.k c.loop-k.k (omega arith)))
