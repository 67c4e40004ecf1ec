use Rattle.std.proofs.Common.{◌≡◌}
use Rattle.dumpi_calls.specs.Parts.{AreParts, events_in}
use Rattle.dumpi_calls.proofs.parts.Parts.of_events.Given as goal

abbrev pub invariant-loop-event : goal.invariant-loop-event
invariant-loop-event l = record {
  parts : AreParts l.parts;
  events : events_in l.parts ≡ l.yielded;
}
