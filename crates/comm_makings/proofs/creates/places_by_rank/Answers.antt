use Rattle.std.proofs.Common.{rules, ◌≡◌, ◌∙◌, ◌<◌, length, get_or, nat_eq, slice_get, ap, arith}
use Rattle.std.proofs.lemmas.Option.{slice_get-get_or}
use Rattle.indexmap.specs.IndexMap.{get}
use Rattle.comm_makings.proofs.OfferLemmas.{ranked_more}
use Rattle.comm_makings.proofs.creates.places_by_rank.Goals as goal

pub loop-at-preserved : goal.loop-at-preserved
loop-at-preserved c =
    let below : c.loop-at.at < length c.args.members.now = omega arith in
    let there = slice_get-get_or c.args.members.now c.loop-at.at 0 below in
    let place : c.in-Ok.place ≡ c.loop-at.at = search rules in
    ranked_more (get nat_eq c.loop-at.places) (get nat_eq c.insert.new.self) c.args.members.now (get_or c.args.members.now c.loop-at.at 0) c.in-Ok.place
    c.loop-at.invariant (c.in_ok-insert.ensures.updates.0) (ap (slice_get c.args.members.now) place ∙ there)
