use Rattle.std.proofs.Common.{◌≡◌, ℕ, true, false}
use Rattle.std.specs.Prelude.{slice_index_or}
use Rattle.trace_ops.specs.Order.{Has}
use Rattle.trace_pair.proofs.by_receive.seen_places.Given as goal

abbrev pub invariant-loop-place : goal.invariant-loop-place
invariant-loop-place l = (i : ℕ) → slice_index_or l.seen.items i false ≡ true → Has l.places i
