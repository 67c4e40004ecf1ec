use Rattle.std.proofs.Common.{◌≡◌, take}
use Rattle.text_layouts.specs.Seats.{kept, texts_from}
use Rattle.text_layouts.proofs.seats.texts_of.Given as goal

abbrev pub invariant-loop-seat : goal.invariant-loop-seat
invariant-loop-seat l = record {
  at : l.rank ≡ l.seat-index;
  put : l.texts.items ≡ texts_from 0 (kept (take l.seat-index l.seats));
}
