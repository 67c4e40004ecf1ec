use Rattle.std.proofs.Common.{◌≡◌, take}
use Rattle.text_layouts.specs.Seats.{kept, missing_from}
use Rattle.text_layouts.proofs.seats.missing_of.Given as goal

abbrev pub invariant-loop-seat : goal.invariant-loop-seat
invariant-loop-seat l = record {
  at : l.rank ≡ l.seat-index;
  put : l.ranks.items ≡ missing_from 0 (kept (take l.seat-index l.seats));
}
