use Rattle.std.proofs.Common.{◌≡◌, true, false, take}
use Rattle.std.specs.List.{list_any, list_all}
use Rattle.trace_stuck.specs.Holds.{holds}
use Rattle.trace_stuck.proofs.hold.+hold.Given as goal

abbrev pub invariant-does_each_hold-loop-c : goal.invariant-does_each_hold-loop-c
invariant-does_each_hold-loop-c g l = list_all (holds (g.A.Able.able l.able)) (take l.c-index l.parts) ≡ true

abbrev pub invariant-does_some_hold-loop-c : goal.invariant-does_some_hold-loop-c
invariant-does_some_hold-loop-c g l = list_any (holds (g.A.Able.able l.able)) (take l.c-index l.parts) ≡ false
