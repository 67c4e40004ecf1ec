-- The operations of a rank, by its place in the list of all ranks' operations.
use Rattle.std.specs.Prelude.{◌≡◌, ℕ, Option, Some, None, List, slice_get}
use Rattle.trace_ops.specs.Ops.{Ops, no_ops}
use Rattle.trace_ops.specs.Order.{AreEntered}

-- what this rank did; what is no rank did nothing
abbrev pub ops_of : List Ops → ℕ → Ops
ops_of ops r = of (slice_get ops r)
  where
    of : Option Ops → Ops
    of (Some o) = o
    of None = no_ops

-- These operations are what the rank did, and its collective calls stand in order.
pub record IsOfRank (ops : List Ops) (r : ℕ) (o : Ops) : Type 0 where
  pub same : ops_of ops r ≡ o
  pub rounds_rise : AreEntered o.rounds
