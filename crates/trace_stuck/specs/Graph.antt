-- A graph: the edges of each of its nodes, which are numbered from 0 on.
use Rattle.std.specs.Prelude.{◌≡◌, ◌≤◌, ◌&&◌, ℕ, Bool, true, false, Option, Some, None, List, slice_get, unwrap_or, nat_lt, length, Vec}
use Rattle.std.specs.declared.alloc.Global.{Global}
use Rattle.trace_stuck.specs.Chains.{Leads}
use Rattle.trace_stuck.specs.Named.{at_rank}
use Rattle.trace_stuck.specs.Release.{among}

-- an edge of a graph, which lists for each node those to which its edges go; one to a node that isn't there counts for
-- nothing
abbrev pub edge : List (Vec ℕ Global) → ℕ → ℕ → Bool
edge edges r s = nat_lt s (length edges) && among (at_rank edges r) s

-- the flag of a node
abbrev pub is_up : List Bool → ℕ → Bool
is_up flags r = unwrap_or (slice_get flags r) false

-- the label of a node
abbrev pub label_at : List (Option ℕ) → ℕ → Option ℕ
label_at labels r = unwrap_or (slice_get labels r) None

-- The least start from which a chain leads to x, where there is one.
abbrev pub IsFirst : (ℕ → ℕ → Bool) → (ℕ → Bool) → ℕ → Option ℕ → Type 0
IsFirst step starts x (Some l) = (starts l ≡ true) × Leads step l x × ((m : ℕ) → starts m ≡ true → Leads step m x → l ≤ m)
IsFirst step starts x None = (m : ℕ) → starts m ≡ true → Leads step m x → ⊥
