use Rattle.std.proofs.Common.{◌≡◌, vec_len, length}
use Rattle.std.specs.Prelude.{nat_le}
use Rattle.trace_stuck.specs.Queue.{Ready, everybody}
use Rattle.trace_stuck.proofs.release.try_all.Given as goal

abbrev pub invariant-loop-r : goal.invariant-loop-r
invariant-loop-r l = record {
  len : vec_len l.able ≡ length l.states;
  ready : Ready l.states l.conditions 0 everybody l.fn.able.items l.fn.release.items → Ready l.states l.conditions 0 (nat_le l.r) l.able.items l.release.items;
}
