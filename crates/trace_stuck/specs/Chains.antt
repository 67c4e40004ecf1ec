-- Chains of steps from one node to another.
use Rattle.std.specs.Prelude.{◌≡◌, ℕ, Bool, true, List, [], ◌∷◌}

-- A chain from r through these nodes to s, each of which is a step from the one before.
abbrev pub IsChain : (ℕ → ℕ → Bool) → ℕ → List ℕ → ℕ → Type 0
IsChain step r [] s = r ≡ s
IsChain step r (t ∷ through) s = (step r t ≡ true) × IsChain step t through s

-- A chain leads from r to s. From each node one leads to itself.
abbrev pub Leads : (ℕ → ℕ → Bool) → ℕ → ℕ → Type 0
Leads step r s = (through : List ℕ) × IsChain step r through s
