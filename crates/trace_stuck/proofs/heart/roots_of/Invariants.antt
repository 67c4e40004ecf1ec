use Rattle.std.proofs.Common.{◌≡◌, ◌<◌, ℕ, vec_len}
use Rattle.trace_stuck.specs.Graph.{is_up}
use Rattle.trace_stuck.specs.Search.{RootIs}
use Rattle.trace_stuck.proofs.heart.roots_of.Given as goal

abbrev pub invariant-loop-r : goal.invariant-loop-r
invariant-loop-r l = record {
  len : vec_len l.roots ≡ l.r;
  roots : (x : ℕ) → x < l.r → RootIs l.least l.strays x (is_up l.roots.items x);
}
