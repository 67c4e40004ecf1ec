use Rattle.std.proofs.Common.{◌≡◌, map, take}
use Rattle.std.specs.Ordering.{int_eq}
use Rattle.indexmap.specs.IndexMap.{get}
use Rattle.trace_stuck.specs.Shape.{shape}
use Rattle.trace_wait.specs.Requests.{AreMade, choices}
use Rattle.trace_wait.proofs.requests.choices_of.Given as goal

abbrev pub invariant-loop-x : goal.invariant-loop-x
invariant-loop-x l = record {
  parts : map shape l.parts.items ≡ choices l.run l.r l.posts (take l.x-index l.xs);
  made : AreMade l.run l.r l.posts (get int_eq l.made);
}
