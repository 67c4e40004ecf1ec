use Rattle.std.proofs.Common.{◌≡◌, ◌-◌}
use Rattle.dumpi_text.specs.Items.{items_front, many_front}
use Rattle.dumpi_text.proofs.ItemByItem.{with_items}
use Rattle.dumpi_text.proofs.items.read_items.Given as goal

abbrev pub invariant-loop : goal.invariant-loop
invariant-loop g l = with_items l.items.items (many_front g.T.Item.front l.close (l.end - l.counter) l.left) ≡ items_front g.T.Item.front l.close l.text
