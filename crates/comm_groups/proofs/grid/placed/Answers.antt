use Rattle.std.proofs.Common.{◌≡◌, ℕ, List, [], ◌∷◌, ◌++◌, arith, ap, sym, ◌∙◌}
use Rattle.std.specs.Prelude.{pos}
use Rattle.std.proofs.lemmas.List.FromFn.{map-range_with_len_more}
use Rattle.comm_groups.specs.declared.color.Colored.{Colored}
use Rattle.comm_groups.specs.Grids.{placed}
use Rattle.comm_groups.proofs.grid.placed.Goals as goal

pub loop-rank-preserved : goal.loop-rank-preserved
loop-rank-preserved c =
    let f : ℕ → Colored = placed c.args.dims.now c.args.remain.now in
    let makes : ℕ → Colored = λ color. record { color = color; key = pos 0; rank = c.loop-rank.rank } in
    c.in_ok-push.ensures.items
    ∙ ap (λ (x : Colored). c.loop-rank.ranks.items ++ x ∷ []) (ap makes c.first_alike-color.ensures)
    ∙ ap (λ (l : List Colored). l ++ f c.loop-rank.rank ∷ []) c.loop-rank.invariant
    ∙ sym (map-range_with_len_more f 0 c.loop-rank.rank c.loop-rank.rank (omega arith))
