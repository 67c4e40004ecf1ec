use Rattle.std.proofs.Common.{◌≡◌, ◌-◌, []}
use Rattle.dumpi_calls.specs.Skims.{requests_with}
use Rattle.dumpi_text.specs.Items.{items_front, many_front}
use Rattle.dumpi_text.specs.Number.{number_item}
use Rattle.dumpi_calls.proofs.requests.named_front.Given as goal

abbrev pub invariant-loop : goal.invariant-loop
invariant-loop l = requests_with l.requests.items (many_front number_item 125 (l.end - l.counter) l.left) ≡ requests_with [] (items_front number_item 125 l.list)
