use Rattle.std.proofs.Common.{◌≡◌, ◌<◌, ℕ, List, [], ◌∷◌, ◌++◌, map, length, take, drop, get_or, ap, ◌∙◌, sym}
use Rattle.comm_groups.specs.declared.color.Colored.{Colored}
use Rattle.comm_groups.specs.Splits.{Group}
use Rattle.comm_groups.proofs.Runs.{Grouped, group_of, grouped_more}
use Rattle.comm_groups.proofs.color.groups_of.Goals as goal

pub loop-first-preserved : goal.loop-first-preserved
loop-first-preserved c =
    let d : Colored = c.in-Some.first.now in
    let rest : List Colored = c.loop-first.rest.now in
    let n : ℕ = c.run_length.result in
    let gs : List Group = c.loop-first.groups.items in
    let first = c.in-Some.ensures.item in
    let was = c.loop-first.invariant in
    let before : Grouped c.args.order.now rest gs = record { all = was.all; sorted = was.sorted; below = was.below; some = was.some; rising = was.rising } in
    let makes : List ℕ → Group = λ ranks. record { color = d.color; ranks = ranks } in
    let made : c.new.result ≡ group_of d.color (take n rest)
    = c.new.ensures ∙ ap makes (c.in_ok-ranks_of.ensures ∙ ap (map (λ (e : Colored). e.rank)) c.split_at.ensures.front) in
    let items : c.push.new.self.items ≡ gs ++ group_of d.color (take n rest) ∷ []
    = c.in_ok-push.ensures.items ∙ ap (λ (g : Group). gs ++ g ∷ []) made in
    let more : Grouped c.args.order.now (drop n rest) (gs ++ group_of d.color (take n rest) ∷ [])
    = grouped_more c.args.order.now rest gs n d before first.3.0 c.run_length.ensures.within
    (λ e. ap (λ (x : Colored). x.color) (sym (first.3.1 e))) c.run_length.ensures.same c.run_length.ensures.next in
    let back = c.split_at.ensures.back in
    record {
      all = rw (items, back) more.all;
      sorted = rw back more.sorted;
      below = rw (items, back) more.below;
      some = rw items more.some;
      rising = rw items more.rising;
    }
