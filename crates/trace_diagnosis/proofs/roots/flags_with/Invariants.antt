use Rattle.std.proofs.Common.{◌≡◌, ℕ, true}
use Rattle.std.specs.Prelude.{vec_len}
use Rattle.trace_stuck.specs.Graph.{is_up}
use Rattle.trace_diagnosis.specs.Roots.{is_labelled}
use Rattle.trace_diagnosis.proofs.roots.flags_with.Given as goal

abbrev pub invariant-loop-node : goal.invariant-loop-node
invariant-loop-node l = record { len : vec_len l.flags ≡ l.node; flags : (r : ℕ) → is_up l.flags.items r ≡ true → is_labelled l.labels l.least r ≡ true }
