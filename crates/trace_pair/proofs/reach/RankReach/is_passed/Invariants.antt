use Rattle.std.proofs.Common.{◌≡◌, drop}
use Rattle.std.specs.List.{list_any}
use Rattle.trace_pair.specs.Reach.{is_passed_on}
use Rattle.trace_pair.proofs.reach.RankReach.is_passed.Given as goal

abbrev pub invariant-loop-comm : goal.invariant-loop-comm
invariant-loop-comm l = list_any (is_passed_on l.self l.receiver l.call l.ended) (drop l.comm-index l.comm-items) ≡ list_any (is_passed_on l.self l.receiver l.call l.ended) l.comm-items
