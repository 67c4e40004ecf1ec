use Rattle.std.proofs.Common.{◌≡◌, filter, take}
use Rattle.trace_diagnosis.specs.Listed.{IsFront, is_starved_by}
use Rattle.trace_diagnosis.proofs.starved.starved_among.Given as goal

abbrev pub invariant-loop-q : goal.invariant-loop-q
invariant-loop-q l = record {
  found : l.found.items ≡ filter (is_starved_by l.ops l.lists) (take l.q-index l.receives);
  front : IsFront l.ops l.lists l.front;
}
