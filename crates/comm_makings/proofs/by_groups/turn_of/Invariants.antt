use Rattle.std.proofs.Common.{◌≤◌, length}
use Rattle.comm_makings.specs.GroupKeys.{key_with}
use Rattle.comm_makings.proofs.Turns.{NoneFrom}
use Rattle.comm_makings.proofs.by_groups.turn_of.Given as goal

abbrev pub decreases-loop-behind : goal.decreases-loop-behind
decreases-loop-behind l = l.behind

abbrev pub invariant-loop-behind : goal.invariant-loop-behind
invariant-loop-behind l = record { within : l.behind ≤ length l.own; none : NoneFrom l.own (key_with l.named.ranks.now l.named.tag) l.behind }
