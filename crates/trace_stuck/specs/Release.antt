-- Orders in which waiting ranks can be released.
use Rattle.std.specs.Prelude.{◌≡◌, ℕ, Bool, true, false, ◌&&◌, ◌||◌, not, ◌==◌, Option, List, [], ◌∷◌, ◌++◌}
use Rattle.std.specs.List.{list_any}
use Rattle.trace_ops.specs.declared.state.State.{State}
use Rattle.trace_stuck.specs.declared.condition.Condition.{Condition}
use Rattle.trace_stuck.specs.States.{is_waiting, is_free}
use Rattle.trace_stuck.specs.Holds.{may_go}

-- the rank is in the list
abbrev pub among : List ℕ → ℕ → Bool
among ranks r = list_any (λ s. s == r) ranks

-- After these, the ranks are distinct waiting ranks, each of which may go on where the free ranks and those before it
-- can.
abbrev pub IsReleasedAfter : List State → List (Option Condition) → List ℕ → List ℕ → Type 0
IsReleasedAfter states conditions before [] = Unit {0}
IsReleasedAfter states conditions before (r ∷ ranks) =
    (is_waiting states r ≡ true) × (among before r ≡ false)
    × (may_go conditions (λ s. is_free states s || among before s) r ≡ true)
    × IsReleasedAfter states conditions (before ++ r ∷ []) ranks

-- distinct waiting ranks, each of which may go on where the free ranks and those before it can
abbrev pub IsReleaseOrder : List State → List (Option Condition) → List ℕ → Type 0
IsReleaseOrder states conditions ranks = IsReleasedAfter states conditions [] ranks

-- the rank waits, and the release leaves it out
abbrev pub left : List State → List ℕ → ℕ → Bool
left states release r = is_waiting states r && not (among release r)

-- No rank that is left may go on where the free ranks and the released ones can.
abbrev pub IsWhole : List State → List (Option Condition) → List ℕ → Type 0
IsWhole states conditions release = (r : ℕ) → left states release r ≡ true → may_go conditions (λ s. is_free states s || among release s) r ≡ false

-- none of the ranks is inside the set
abbrev pub AreOutside : List ℕ → (ℕ → Bool) → Type 0
AreOutside ranks inside = (r : ℕ) → among ranks r ≡ true → inside r ≡ false
