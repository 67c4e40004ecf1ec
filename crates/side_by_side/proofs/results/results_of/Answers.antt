use Rattle.std.proofs.Common.{subst, sym, arith}
use Rattle.std.specs.List.{All}
use Rattle.side_by_side.specs.Jobs.{AllDone}
use Rattle.side_by_side.proofs.results.results_of.Goals as goal

pub with_lists-requires : goal.with_lists-requires
with_lists-requires g c =
    let lists = c.in_ok-lists.lists in
    let len = c.in_ok-lists.ensures.len in
    let long = lists.ok.0 in
    subst (λ jobs. All (λ list. AllDone (g.J.Jobs.gives jobs) list.items) lists.items) (sym c.in_ok-results.ensures)
    (λ i d lt. (c.in_ok-lists.ensures.each i d (omega (arith, lt, len, long))).1.met)
