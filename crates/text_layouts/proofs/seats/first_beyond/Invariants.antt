use Rattle.std.proofs.Common.{◌≡◌, drop}
use Rattle.text_layouts.specs.Seats.{first_beyond}
use Rattle.text_layouts.proofs.seats.first_beyond.Given as goal

abbrev pub invariant-loop-place : goal.invariant-loop-place
invariant-loop-place l = first_beyond l.most l.place (drop l.place l.numbers) ≡ first_beyond l.most 0 l.numbers
