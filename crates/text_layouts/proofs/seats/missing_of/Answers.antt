use Rattle.std.proofs.Common.{◌∙◌, ◌<◌, ◌++◌, ℕ, List, ap₂, arith, length, option_map, string_bytes, sym}
use Rattle.text_layouts.specs.Seats.{one_missing}
use Rattle.text_layouts.proofs.Seating.{one_seat_more}
use Rattle.text_layouts.proofs.seats.missing_of.Goals as goal

pub loop-seat-preserved : goal.loop-seat-preserved
loop-seat-preserved c =
    let i = c.loop-seat.seat-index in
    let seat = c.seat-item.result in
    let lt : i < length c.args.seats.now = omega arith in
    record {
      at = grind arith;
      put = c.in_ok-add_missing.ensures ∙ ap₂ (λ (l : List ℕ) (r : ℕ). l ++ one_missing r (option_map string_bytes seat)) c.loop-seat.invariant.put c.loop-seat.invariant.at
          ∙ sym (one_seat_more one_missing c.args.seats.now i seat lt c.seat-item.is);
    }
