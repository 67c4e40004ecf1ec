use Rattle.std.proofs.Common.{◌≡◌, false, take}
use Rattle.std.specs.List.{list_any}
use Rattle.trace_stuck.proofs.hold.can_some_go.Given as goal

abbrev pub invariant-loop-r : goal.invariant-loop-r
invariant-loop-r g l = list_any (g.A.Able.able l.able) (take l.r-index l.ranks) ≡ false
