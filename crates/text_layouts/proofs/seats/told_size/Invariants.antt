use Rattle.std.proofs.Common.{◌≡◌, drop}
use Rattle.text_layouts.specs.Seats.{told_size}
use Rattle.text_layouts.proofs.seats.told_size.Given as goal

abbrev pub invariant-loop-calls : goal.invariant-loop-calls
invariant-loop-calls l = told_size (drop l.calls-index l.ranks) ≡ told_size l.ranks
