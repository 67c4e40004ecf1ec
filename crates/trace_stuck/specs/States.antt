-- The state of a rank, by its place in the list of states. What is no rank counts as ended.
use Rattle.std.specs.Prelude.{ℕ, Bool, true, false, Option, Some, List, slice_get}
use Rattle.trace_ops.specs.declared.state.State.{State}
use Rattle.trace_ops.specs.declared.state.State.TheVariants.{Free, Waiting}

-- the rank waits in a call
abbrev pub is_waiting : List State → ℕ → Bool
is_waiting states r = waits (slice_get states r)
  where
    waits : Option State → Bool
    waits (Some Waiting) = true
    waits o = false

-- the rank has ended, or there is no such rank: it will never do anything
abbrev pub is_ended : List State → ℕ → Bool
is_ended states r = ended (slice_get states r)
  where
    ended : Option State → Bool
    ended (Some Free) = false
    ended (Some Waiting) = false
    ended o = true

-- the rank can go on by itself
abbrev pub is_free : List State → ℕ → Bool
is_free states r = free (slice_get states r)
  where
    free : Option State → Bool
    free (Some Free) = true
    free o = false
