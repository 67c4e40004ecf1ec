use Rattle.std.proofs.Common.{◌≡◌, ◌≤◌, List, drop, length}
use Rattle.trace_ops.specs.Called.{plain_called}
use Rattle.trace_ops.specs.Calls.{Entry}
use Rattle.trace_ops.specs.Gathered.{Adds}
use Rattle.trace_ops.specs.Held.{AreInitsAt}
use Rattle.trace_ops.specs.Request.{started_by}
use Rattle.trace_ops.specs.Steps.{parts_from}
use Rattle.trace_ops.proofs.ops.gather.Gathered.add_parts.Given as goal

abbrev pub decreases-loop-place : goal.decreases-loop-place
decreases-loop-place l = l.place

abbrev pub invariant-loop-place : goal.invariant-loop-place
invariant-loop-place l = record {
  within : l.place ≤ length l.requests;
  few : l.self.foreign ≡ l.initial.self.foreign;
  gathered : (before : List Entry) → length before ≡ l.n → AreInitsAt before (plain_called l.called) l.inits →
      Adds l.layout l.rank l.calls (parts_from before (plain_called l.called) l.place (drop l.place (started_by l.called.call.now))) l.initial.self l.self;
}
