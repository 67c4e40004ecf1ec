use Rattle.std.proofs.Common.{◌≡◌, true, take}
use Rattle.std.specs.List.{list_all}
use Rattle.trace_stuck.proofs.hold.can_each_go.Given as goal

abbrev pub invariant-loop-r : goal.invariant-loop-r
invariant-loop-r g l = list_all (g.A.Able.able l.able) (take l.r-index l.ranks) ≡ true
