use Rattle.std.proofs.Common.{[]}
use Rattle.std.specs.List.{All}
use Rattle.trace_ops.specs.Ops.{AreOwn}
use Rattle.trace_pair.specs.After.{comes_after}
use Rattle.trace_pair.specs.Calls.{IsSingle}
use Rattle.trace_pair.specs.Followed.{Indexes, FollowsBy}
use Rattle.trace_pair.specs.Parts.{all_begun}
use Rattle.trace_pair.proofs.together.add_ranks.Given as goal

abbrev pub invariant-loop-done : goal.invariant-loop-done
invariant-loop-done l = AreOwn 0 l.ops → All IsSingle l.ops → Indexes (comes_after l.ops) [] [] l.fn.state → FollowsBy (comes_after l.ops) (all_begun l.parts l.done l.ops) l.state
