use Rattle.std.proofs.Common.{◌≡◌, Bool, List, true, false, arith, subst}
use Rattle.std.specs.Prelude.{slice_index_or}
use Rattle.trace_pair.proofs.Searched.{more_there}
use Rattle.trace_pair.proofs.by_receive.all_places.Goals as goal

pub loop-next-preserved : goal.loop-next-preserved
loop-next-preserved c =
    let kept = c.in_ok-put_unseen.ensures.kept in
    let seen_there = c.loop-next.invariant.seen_there in
    let there = c.in_ok-put_unseen.ensures.there (λ h. seen_there c.loop-next.next (subst (λ (l : List Bool). slice_index_or l c.loop-next.next false ≡ true) c.deref-in-loop-next.ensures.value h)) in
    record {
      bound = omega arith;
      all = more_there c.loop-next.places.items c.put_unseen.new.places.items c.loop-next.next kept there c.loop-next.invariant.all;
      seen_there = λ i h. kept i (seen_there i h);
    }
