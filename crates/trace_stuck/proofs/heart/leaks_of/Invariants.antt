use Rattle.std.proofs.Common.{◌≡◌, ◌<◌, ℕ, vec_len}
use Rattle.trace_stuck.specs.Graph.{is_up}
use Rattle.trace_stuck.specs.Search.{LeakIs}
use Rattle.trace_stuck.proofs.heart.leaks_of.Given as goal

abbrev pub invariant-loop-r : goal.invariant-loop-r
invariant-loop-r l = record {
  len : vec_len l.leaks ≡ l.r;
  leaks : (x : ℕ) → x < l.r → LeakIs l.edges l.labels x (is_up l.leaks.items x);
}
