use Rattle.std.proofs.Common.{◌≡◌, ◌-◌}
use Rattle.dumpi_calls.specs.Skims.{unseen, with_told}
use Rattle.dumpi_text.specs.Items.{field_item, fields_front, many_front}
use Rattle.dumpi_calls.proofs.skim.any_front.Given as goal

abbrev pub invariant-loop : goal.invariant-loop
invariant-loop l = with_told l.seen (many_front field_item 125 (l.end - l.counter) l.left) ≡ with_told unseen (fields_front l.text)
