use Rattle.std.proofs.Common.{◌≡◌, take}
use Rattle.trace_wait.specs.Patterns.{Pattern}
use Rattle.trace_diagnosis.specs.Shelves.{has_key}
use Rattle.trace_diagnosis.specs.Ways.{AreMessages}
use Rattle.trace_diagnosis.proofs.near.put_messages.Given as goal

abbrev pub invariant-loop-at : goal.invariant-loop-at
invariant-loop-at l = record {
  messages : AreMessages l.way (take l.at l.messages) l.shelf;
  keys : (k : Pattern) → has_key l.shelf k ≡ has_key l.fn.shelf k;
}
