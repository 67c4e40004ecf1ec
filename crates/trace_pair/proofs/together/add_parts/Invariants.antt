use Rattle.std.specs.List.{All}
use Rattle.trace_ops.specs.Ops.{AreOwn}
use Rattle.trace_pair.specs.After.{comes_after}
use Rattle.trace_pair.specs.Calls.{IsSingle}
use Rattle.trace_pair.specs.Followed.{FollowsBy}
use Rattle.trace_pair.specs.Parts.{all_begun}
use Rattle.trace_pair.proofs.Parts.{one_ahead}
use Rattle.trace_pair.proofs.together.add_parts.Given as goal

abbrev pub invariant-loop-own : goal.invariant-loop-own
invariant-loop-own l = AreOwn 0 l.ops → All IsSingle l.ops → FollowsBy (comes_after l.ops) (all_begun l.parts l.done l.ops) l.initial.state → FollowsBy (comes_after l.ops) (one_ahead l.parts l.done l.own-index l.ops) l.state
