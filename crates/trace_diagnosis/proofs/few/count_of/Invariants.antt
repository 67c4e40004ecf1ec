use Rattle.std.proofs.Common.{◌≡◌, ◌≤◌, filter, length, take}
use Rattle.trace_diagnosis.specs.Fewest.{has_value}
use Rattle.trace_diagnosis.proofs.few.count_of.Given as goal

abbrev pub invariant-loop-thing : goal.invariant-loop-thing
invariant-loop-thing l = record {
  counted : l.count ≡ length (filter (has_value l.value) (take l.thing-index l.things));
  within : l.count ≤ l.thing-index;
}
