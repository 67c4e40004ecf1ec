use Rattle.std.proofs.Common.{◌≡◌, ◌-◌, []}
use Rattle.dumpi_calls.specs.Skims.{tolds_with}
use Rattle.dumpi_text.specs.Items.{group_item, items_front, many_front}
use Rattle.dumpi_calls.proofs.skim.tolds_front.Given as goal

abbrev pub invariant-loop : goal.invariant-loop
invariant-loop l = tolds_with l.tolds.items (many_front group_item 125 (l.end - l.counter) l.left) ≡ tolds_with [] (items_front group_item 125 l.list)
