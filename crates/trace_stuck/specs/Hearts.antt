-- The hearts of a graph: its strongly connected components that no edge leads out of.
use Rattle.std.specs.Prelude.{◌≡◌, ◌<◌, ◌≤◌, ℕ, Option, Some, None, List, length, Vec}
use Rattle.std.specs.declared.alloc.Global.{Global}
use Rattle.trace_stuck.specs.Chains.{Leads}
use Rattle.trace_stuck.specs.Graph.{edge, label_at}

-- The node reaches the other along edges.
abbrev pub Reaches : List (Vec ℕ Global) → ℕ → ℕ → Type 0
Reaches edges = Leads (edge edges)

-- A node is in a heart where every node that it reaches also reaches it.
abbrev pub IsInHeart : List (Vec ℕ Global) → ℕ → Type 0
IsInHeart edges r = (r < length edges) × ((s : ℕ) → Reaches edges r s → Reaches edges s r)

-- The heart in which a node is goes by its least node; all others are in none.
abbrev pub IsHeartOf : List (Vec ℕ Global) → ℕ → Option ℕ → Type 0
IsHeartOf edges r (Some least) = IsInHeart edges r × Reaches edges r least × ((s : ℕ) → Reaches edges r s → least ≤ s)
IsHeartOf edges r None = IsInHeart edges r → ⊥

-- A list has the heart of each node.
abbrev pub AreHearts : List (Vec ℕ Global) → List (Option ℕ) → Type 0
AreHearts edges hearts = (r : ℕ) → IsHeartOf edges r (label_at hearts r)

-- Each node reaches one that is in a heart: there is no graph without a heart.
abbrev pub HaveHearts : List (Vec ℕ Global) → Type 0
HaveHearts edges = (r : ℕ) → r < length edges → (s : ℕ) × Reaches edges r s × IsInHeart edges s

-- Two lists of the hearts of a graph say the same of each node.
abbrev pub HeartsAreOne : Type 0
HeartsAreOne = (edges : List (Vec ℕ Global)) (one other : List (Option ℕ)) → AreHearts edges one → AreHearts edges other → (r : ℕ) → label_at one r ≡ label_at other r
