-- Closed sets of ranks, and the stuck ranks. A set is its test: which rank is inside.
use Rattle.std.specs.Prelude.{◌≡◌, ℕ, Bool, true, false, ◌&&◌, not, Option, List}
use Rattle.trace_ops.specs.declared.state.State.{State}
use Rattle.trace_stuck.specs.declared.condition.Condition.{Condition}
use Rattle.trace_stuck.specs.States.{is_waiting, is_ended}
use Rattle.trace_stuck.specs.Holds.{may_go}
use Rattle.trace_stuck.specs.Release.{AreOutside}

-- A closed set: waiting ranks, none of which may go on even where every rank outside that has not ended can.
abbrev pub IsClosed : List State → List (Option Condition) → (ℕ → Bool) → Type 0
IsClosed states conditions inside = (r : ℕ) → inside r ≡ true →
    (is_waiting states r ≡ true) × (may_go conditions (λ s. not (inside s) && not (is_ended states s)) r ≡ false)

-- A stuck rank is inside some closed set: the stuck ranks are the union of the closed sets.
abbrev pub IsStuck : List State → List (Option Condition) → ℕ → Type 0
IsStuck states conditions r = (inside : ℕ → Bool) × IsClosed states conditions inside × (inside r ≡ true)

-- none of the ranks is inside any closed set
abbrev pub AreInNoClosedSet : List State → List (Option Condition) → List ℕ → Type 0
AreInNoClosedSet states conditions ranks = (inside : ℕ → Bool) → IsClosed states conditions inside → AreOutside ranks inside
