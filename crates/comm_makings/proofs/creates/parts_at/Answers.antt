use Rattle.std.proofs.Common.{◌≡◌, ◌∙◌, None, Some, ap, map, nat_eq, refl, sym}
use Rattle.std.proofs.lemmas.Option.{slice_get-get_or}
use Rattle.indexmap.specs.IndexMap.{get}
use Rattle.comm_makings.specs.Derives.{ArePlaces}
use Rattle.comm_makings.proofs.OfferLemmas.{offered_more, places_are}
use Rattle.comm_makings.proofs.creates.parts_at.Goals as goal
use Rattle.comm_makings.proofs.creates.parts_at.Goals.{then-offer+in_ok-push-in-Some, else-offer}

pub loop-offer-preserved : goal.loop-offer-preserved
loop-offer-preserved c = λ ranks ranked. elim c.if-offer.branch [
  | then-offer+in_ok-push-in-Some w ↦
      let looked : map Some c.in-Some.places.items ≡ map (get nat_eq c.args.placed.now) c.deref.result.now = rw c.in-Some.is at c.in_ok-places_of.ensures in
      let group : c.deref.result.now ≡ c.offer-item.result.ranks.items = c.deref.ensures.value in
      let places : ArePlaces ranks c.in-Some.places.items c.offer-item.result.ranks.items =
      places_are (get nat_eq c.args.placed.now) ranks c.in-Some.places.items c.offer-item.result.ranks.items ranked
      (looked ∙ ap (map (get nat_eq c.args.placed.now)) group) in
      rw w.parts-is (rw w.in_ok-push-in-Some.ensures.items (rw w.new.ensures
      (offered_more ranks c.args.offers.now c.loop-offer.parts.items (record { places = c.in-Some.places.items; dims = None }) c.loop-offer.offer-index c.offer-item.result
      (c.loop-offer.invariant ranks ranked) (slice_get-get_or c.args.offers.now c.loop-offer.offer-index c.offer-item.result c.loop-offer-test.true ∙ ap Some (sym c.offer-item.is))
      w.if-offer.true places refl)))
  | else-offer w ↦ rw w.parts-is (c.loop-offer.invariant ranks ranked)
]
