use Rattle.std.proofs.Common.{◌∙◌, ◌<◌, ◌++◌, ℕ, List, ap₂, arith, length, option_map, string_bytes, sym}
use Rattle.run_files.specs.Manifests.{PieceParts}
use Rattle.text_layouts.specs.Seats.{one_text}
use Rattle.text_layouts.proofs.Seating.{one_seat_more}
use Rattle.text_layouts.proofs.seats.texts_of.Goals as goal

pub loop-seat-preserved : goal.loop-seat-preserved
loop-seat-preserved c =
    let i = c.loop-seat.seat-index in
    let seat = c.seat-item.result in
    let lt : i < length c.args.seats.now = omega arith in
    record {
      at = grind arith;
      put = c.in_ok-add_text.ensures ∙ ap₂ (λ (l : List PieceParts) (r : ℕ). l ++ one_text r (option_map string_bytes seat)) c.loop-seat.invariant.put c.loop-seat.invariant.at
          ∙ sym (one_seat_more one_text c.args.seats.now i seat lt c.seat-item.is);
    }
