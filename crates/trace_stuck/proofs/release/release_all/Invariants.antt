use Rattle.std.proofs.Common.{◌≡◌, ◌≤◌, ◌-◌, vec_len, length}
use Rattle.trace_stuck.specs.Queue.{Ready, nobody}
use Rattle.trace_stuck.proofs.release.release_all.Given as goal

abbrev pub invariant-loop-at : goal.invariant-loop-at
invariant-loop-at l = record {
  len : vec_len l.able ≡ length l.states;
  within : l.at ≤ vec_len l.release;
  ready : Ready l.states l.conditions l.at nobody l.able.items l.release.items;
}

abbrev pub decreases-loop-at : goal.decreases-loop-at
decreases-loop-at l = length l.states - l.at
