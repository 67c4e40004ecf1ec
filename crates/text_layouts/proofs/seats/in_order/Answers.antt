use Rattle.std.proofs.Common.{◌≡◌, ◌∙◌, ◌<◌, ◌+◌, ◌++◌, ◌∷◌, [], ℕ, List, Option, Some, Global, String, ap, ap₂, arith, length, length-append, map, option_map, string_bytes, sym, take}
use Rattle.text_layouts.specs.Seats.{kept}
use Rattle.text_layouts.proofs.Lines.{all_mapped, take_next}
use Rattle.text_layouts.proofs.Seating.{map_push}
use Rattle.text_layouts.proofs.seats.in_order.Goals as goal

pub loop-name-preserved : goal.loop-name-preserved
loop-name-preserved c =
    let names = c.args.names.now in
    let i = c.loop-name.name-index in
    let name = c.name-item.result in
    let lt : i < length names = omega arith in
    let bytes : string_bytes c.in_ok-to_string.field-0 ≡ string_bytes name = c.in_ok-to_string.ensures.ok ∙ c.as_str.ensures.value in
    let texts : kept c.push.new.self.items ≡ map (λ (n : String Global). Some (string_bytes n)) (take (i + 1) names) = ap kept c.in_ok-push.ensures.items
    ∙ map_push (option_map string_bytes) c.loop-name.seats.items (Some c.in_ok-to_string.field-0)
    ∙ ap₂ (λ (front : List (Option (List ℕ))) (last : List ℕ). front ++ Some last ∷ []) c.loop-name.invariant.texts bytes
    ∙ sym (map_push (λ (n : String Global). Some (string_bytes n)) (take i names) name)
    ∙ ap (map (λ (n : String Global). Some (string_bytes n))) (sym (take_next names i name lt c.name-item.is)) in
    let more : length c.push.new.self.items ≡ length (c.loop-name.seats.items ++ Some c.in_ok-to_string.field-0 ∷ []) = ap length c.in_ok-push.ensures.items in
    let count : length c.push.new.self.items ≡ i + 1 = omega (arith, more, length-append c.loop-name.seats.items (Some c.in_ok-to_string.field-0 ∷ []), c.loop-name.invariant.count) in
    record { texts = texts; count = count }

pub returns-clause-texts : goal.returns-clause-texts
returns-clause-texts c = all_mapped (string_bytes {Z = Global}) (λ (n : List ℕ). Some n) c.args.names.now c.loop-name.name-index (kept c.loop-name.seats.items) (omega arith) c.loop-name.invariant.texts
