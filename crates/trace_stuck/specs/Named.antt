-- Which ranks a condition names.
use Rattle.std.specs.Prelude.{◌≡◌, ◌<◌, ◌⊎◌, ℕ, true, Option, Some, None, List, [], ◌∷◌, slice_get, Vec, length}
use Rattle.std.specs.List.{flat_map}
use Rattle.std.specs.declared.alloc.Global.{Global}
use Rattle.trace_stuck.specs.declared.condition.Condition.{Condition}
use Rattle.trace_stuck.specs.declared.condition.Condition.TheOpen.{Condition-F, Yes, Rank, All, One, OneRank, AllRanks, Mismatched}
use Rattle.trace_stuck.specs.declared.condition.Condition.TheFolds.{fold-Condition}
use Rattle.trace_stuck.specs.Release.{among}

-- one level of a condition, with the ranks of each part in its place
abbrev pub named_step : Condition-F (List ℕ) → List ℕ
named_step Yes = []
named_step (Rank r) = r ∷ []
named_step (All parts) = flat_map (λ p. p) parts.items
named_step (One parts) = flat_map (λ p. p) parts.items
named_step (OneRank ranks) = ranks.value.items
named_step (AllRanks ranks) = ranks.value.items
named_step (Mismatched first) = []

-- the ranks that stand in a condition, in order
abbrev pub named : Condition → List ℕ
named = fold-Condition (List ℕ) named_step

-- the ranks that the condition of this rank names
abbrev pub names : List (Option Condition) → ℕ → List ℕ
names conditions r = of (slice_get conditions r)
  where
    of : Option (Option Condition) → List ℕ
    of (Some (Some c)) = named c
    of o = []

-- the list that stands at a rank
abbrev pub at_rank : List (Vec ℕ Global) → ℕ → List ℕ
at_rank askers s = items_of (slice_get askers s)
  where
    items_of : Option (Vec ℕ Global) → List ℕ
    items_of (Some v) = v.items
    items_of None = []

-- The rank r was noted at these ranks and nowhere else, and nothing was lost.
pub record NotesAll (before after : List (Vec ℕ Global)) (ranks : List ℕ) (r : ℕ) : Type 0 where
  pub len : length after ≡ length before
  pub kept : (t x : ℕ) → among (at_rank before t) x ≡ true → among (at_rank after t) x ≡ true
  pub noted : (s : ℕ) → s < length before → among ranks s ≡ true → among (at_rank after s) r ≡ true
  pub only : (t x : ℕ) → among (at_rank after t) x ≡ true → (among (at_rank before t) x ≡ true) ⊎ ((r ≡ x) × (among ranks t ≡ true))

-- the rank r was noted at the rank s
abbrev pub Asks : List (Vec ℕ Global) → List (Vec ℕ Global) → ℕ → ℕ → Type 0
Asks before after s r = NotesAll before after (s ∷ []) r

-- The list of each rank has each rank below `done` whose condition names it.
abbrev pub IsAskedBy : List (Option Condition) → ℕ → ℕ → List (Vec ℕ Global) → Type 0
IsAskedBy conditions count done askers = (r s : ℕ) → r < done → s < count → among (names conditions r) s ≡ true → among (at_rank askers s) r ≡ true
