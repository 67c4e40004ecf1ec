use Rattle.std.proofs.Common.{◌≡◌, ◌<◌, ℕ, get_or, map, take}
use Rattle.trace_node.specs.Answer.{shapes, wait_at}
use Rattle.trace_node.specs.ByRank.{stopped_by}
use Rattle.trace_node.specs.Stopped.{stopped}
use Rattle.trace_node.proofs.answer.gather.stuck_of.Given as goal

abbrev pub invariant-loop-rank : goal.invariant-loop-rank
invariant-loop-rank l = record {
  told : map stopped l.all.items ≡ map (stopped_by l.walls l.ops (shapes l.fn.conditions)) (take l.rank-index l.ranks);
  later : (r : ℕ) → ((k : ℕ) → k < l.rank-index → get_or l.ranks k 0 < r) → wait_at (shapes l.conditions) r ≡ wait_at (shapes l.fn.conditions) r;
}
