use Rattle.std.proofs.Common.{◌≡◌, ◌∙◌, None, take, ap, sym, refl, get_or}
use Rattle.call_words.specs.Ranges.{next_range, range_after, text_before, text_of}
use Rattle.call_words.proofs.Adding.{then, reads}
use Rattle.call_words.proofs.Ranging.{range_push, take_next, text_push}
use Rattle.call_words.proofs.ranges.put_ranges.Goals as goal

pub loop-rank-preserved : goal.loop-rank-preserved
loop-rank-preserved c =
    let i = c.loop-rank.rank-index in
    let ranks = c.args.ranks.now in
    let r = get_or ranks i 0 in
    let next = take_next ranks i 0 r c.loop-rank-test.true refl in
    let said : text_before c.loop-rank.held r ≡ text_before (range_after None (take i ranks)) r = ap (λ h. text_before h r) c.loop-rank.invariant.held in
    record {
      text = reads (then c.loop-rank.invariant.text (reads c.put_next-held.ensures.text said)) (sym (text_push None (take i ranks) r) ∙ ap (text_of None) (sym next));
      held = c.put_next-held.ensures.held ∙ ap (λ h. next_range h r) c.loop-rank.invariant.held ∙ sym (range_push None (take i ranks) r) ∙ ap (range_after None) (sym next);
    }
