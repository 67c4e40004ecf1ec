use Rattle.std.proofs.Common.{◌≡◌, Some, length, map, string_bytes, take}
use Rattle.text_layouts.specs.Seats.{kept}
use Rattle.text_layouts.proofs.seats.in_order.Given as goal

abbrev pub invariant-loop-name : goal.invariant-loop-name
invariant-loop-name l = record {
  texts : kept l.seats.items ≡ map (λ name. Some (string_bytes name)) (take l.name-index l.names);
  count : length l.seats.items ≡ l.name-index;
}
