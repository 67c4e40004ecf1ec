use Rattle.std.proofs.Common.{◌≡◌, ◌≤◌, ℕ, vec_len, length, drop}
use Rattle.trace_stuck.specs.Release.{among}
use Rattle.trace_stuck.specs.Queue.{Ready}
use Rattle.trace_stuck.proofs.release.try_ranks.Given as goal

abbrev pub invariant-loop-r : goal.invariant-loop-r
invariant-loop-r l = record {
  len : vec_len l.able ≡ length l.states;
  grows : length l.fn.release.items ≤ length l.release.items;
  ready : (from : ℕ) → from ≤ length l.fn.release.items → Ready l.states l.conditions from (among l.ranks) l.fn.able.items l.fn.release.items →
      Ready l.states l.conditions from (among (drop l.r-index l.ranks)) l.able.items l.release.items;
}
