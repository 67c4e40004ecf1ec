use Rattle.std.proofs.Common.{rules, ◌≡◌, ◌∙◌, ◌+◌, ◌++◌, ◌∷◌, [], ap, sym, arith}
use Rattle.crossbeam_channel.specs.Claims.{view}
use Rattle.trace_crew.specs.Views.{after_take}
use Rattle.trace_crew.specs.Taking.{counted, is_end}
use Rattle.trace_crew.proofs.Sorting.{ends_more, sorted_kept}
use Rattle.trace_crew.proofs.keeper.own.Goals as goal

pub loop-preserved : goal.loop-preserved
loop-preserved g c =
    let t = c.loop.invariant.taken in
    let item = c.in-Some-next_item.item in
    record {
      seat = c.next_item.ensures.seat;
      few = omega (arith, c.loop.invariant.few, c.announce-count.ensures.one);
      taken = (
        t.0 ++ item ∷ [],
        c.in-Some-next_item.ensures.some ∙ ap (λ v. after_take v item) t.1,
        ends_more t.0 item ∙ ap (λ n. n + counted (is_end item)) t.2 ∙ ap (λ n. c.loop.ends + n) (sym (c.announce-count.ensures.count ∙ c.in_ok-taken.ensures.end)),
        (λ layout h. c.in_ok-taken.ensures.sorted layout t.0 (sorted_kept layout t.0 _ _ _ _ c.next_item.ensures.kept c.next_item.ensures.listed (t.3 layout h))),
      );
    }

pub loop-preserved-in_default : goal.loop-preserved-in_default
loop-preserved-in_default g c =
    let t = c.loop.invariant.taken in
    let same : view c.next_item.new.seat ≡ view c.loop.seat = search rules in
    record {
      seat = c.next_item.ensures.seat;
      few = c.loop.invariant.few;
      taken = (t.0, same ∙ t.1, t.2, (λ layout h. sorted_kept layout t.0 _ _ _ _ c.next_item.ensures.kept c.next_item.ensures.listed (t.3 layout h)));
    }
