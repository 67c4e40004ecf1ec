use Rattle.std.proofs.Common.{◌≡◌, drop}
use Rattle.dumpi_calls.specs.Outcomes.{first_number}
use Rattle.dumpi_calls.proofs.outcome.number_of.Given as goal

abbrev pub invariant-loop-field : goal.invariant-loop-field
invariant-loop-field l = first_number l.word (drop l.field-index l.fields) ≡ first_number l.word l.fields
