-- What holds of conditions, closed sets and release orders, whatever the program does.
use Rattle.std.specs.Prelude.{◌≡◌, ◌↔◌, ◌||◌, ℕ, Bool, true, Option, List}
use Rattle.std.specs.List.Sorted.{IsStrictlyIncreasing}
use Rattle.trace_ops.specs.declared.state.State.{State}
use Rattle.trace_stuck.specs.declared.condition.Condition.{Condition}
use Rattle.trace_stuck.specs.States.{is_waiting}
use Rattle.trace_stuck.specs.Holds.{holds}
use Rattle.trace_stuck.specs.Stuck.{IsClosed, IsStuck}
use Rattle.trace_stuck.specs.Release.{among, IsReleaseOrder}

-- Where more ranks can go on, a condition that held still holds.
abbrev pub ConditionsAreMonotone : Type 0
ConditionsAreMonotone = (condition : Condition) (able more : ℕ → Bool) → ((r : ℕ) → able r ≡ true → more r ≡ true) →
    holds able condition ≡ true → holds more condition ≡ true

-- The set of the stuck ranks is itself closed, so it is the greatest closed set.
abbrev pub StuckRanksAreClosed : Type 0
StuckRanksAreClosed = (states : List State) (conditions : List (Option Condition)) (inside : ℕ → Bool) →
    ((r : ℕ) → (inside r ≡ true) ↔ IsStuck states conditions r) → IsClosed states conditions inside

-- Where one list is closed, another is a release order, and the two are together the waiting ranks, the closed one
-- lists the stuck ranks.
abbrev pub CheckedVerdictsAreRight : Type 0
CheckedVerdictsAreRight = (states : List State) (conditions : List (Option Condition)) (stuck release : List ℕ) →
    IsClosed states conditions (among stuck) → IsReleaseOrder states conditions release →
    ((r : ℕ) → is_waiting states r ≡ (among stuck r || among release r)) →
    (r : ℕ) → (among stuck r ≡ true) ↔ IsStuck states conditions r

-- Two rising lists of the same ranks are one list: there is one list of the stuck ranks.
abbrev pub RisingListsAreOne : Type 0
RisingListsAreOne = (first second : List ℕ) → IsStrictlyIncreasing first → IsStrictlyIncreasing second →
    ((r : ℕ) → (among first r ≡ true) ↔ (among second r ≡ true)) → first ≡ second
