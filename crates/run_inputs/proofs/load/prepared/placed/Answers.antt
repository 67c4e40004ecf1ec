use Rattle.std.proofs.Common.{◌≡◌, ◌∙◌, ◌<◌, ◌++◌, ◌∷◌, [], ℕ, List, Some, ap, sym, subst, length, map, take, get_or, arith, string_bytes}
use Rattle.std.specs.List.{slice_get}
use Rattle.std.proofs.lemmas.List.{take_more}
use Rattle.std.proofs.lemmas.Option.{slice_get-get_or, slice_get-map}
use Rattle.std.specs.Option.{option_map}
use Rattle.run_inputs.specs.Prepared.{AreAt}
use Rattle.run_inputs.proofs.Ordered.{at_more, map_push}
use Rattle.run_inputs.proofs.load.prepared.placed.Goals as goal

pub loop-place-preserved : goal.loop-place-preserved
loop-place-preserved c =
    let names = c.args.names.now in
    let place : ℕ = get_or c.args.places.now c.loop-place.place-index 0 in
    let name = c.index-names-place.result in
    let lt : c.loop-place.place-index < length c.args.places.now = omega arith in
    let within : place < length names = c.requires c.loop-place.place-index 0 lt in
    let at : slice_get (map string_bytes names) place ≡ Some (string_bytes name) =
    slice_get-map string_bytes names place ∙ ap (option_map string_bytes) (slice_get-get_or names place name within ∙ ap Some (sym c.index-names-place.is)) in
    let bytes : string_bytes c.in_ok-to_string.field-0 ≡ string_bytes name = c.in_ok-to_string.ensures.ok ∙ c.as_str.ensures.value in
    let pushed : map string_bytes c.push.new.self.items ≡ map string_bytes c.loop-place.ordered.items ++ string_bytes name ∷ [] =
    ap (map string_bytes) c.in_ok-push.ensures.items ∙ map_push string_bytes c.loop-place.ordered.items c.in_ok-to_string.field-0
    ∙ ap (λ (b : List ℕ). map string_bytes c.loop-place.ordered.items ++ b ∷ []) bytes in
    subst (λ (ps : List ℕ). AreAt (map string_bytes names) ps (map string_bytes c.push.new.self.items)) (sym (take_more c.args.places.now c.loop-place.place-index 0 lt))
    (subst (λ (o : List (List ℕ)). AreAt (map string_bytes names) (take c.loop-place.place-index c.args.places.now ++ place ∷ []) o) (sym pushed)
    (at_more (map string_bytes names) (take c.loop-place.place-index c.args.places.now) place (map string_bytes c.loop-place.ordered.items) (string_bytes name) c.loop-place.invariant at))
