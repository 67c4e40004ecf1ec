-- How a queue of released ranks stands. No public clause speaks of it.
use Rattle.std.specs.Prelude.{◌≡◌, ◌≤◌, ◌+◌, ◌&&◌, ◌||◌, ◌⊎◌, not, ℕ, Bool, true, false, Option, List, [], ◌∷◌, ◌++◌, length, set, drop, slice_get, unwrap_or, Vec}
use Rattle.std.specs.declared.alloc.Global.{Global}
use Rattle.trace_ops.specs.declared.state.State.{State}
use Rattle.trace_stuck.specs.declared.condition.Condition.{Condition}
use Rattle.trace_stuck.specs.States.{is_free, is_waiting}
use Rattle.trace_stuck.specs.Holds.{may_go}
use Rattle.trace_stuck.specs.Release.{among, IsReleaseOrder}
use Rattle.trace_stuck.specs.Named.{names}

-- the flag of a rank: up where it can go on
abbrev pub flag : List Bool → ℕ → Bool
flag flags r = unwrap_or (slice_get flags r) false

-- the rank waits, its flag is down, and it may go on where the ranks whose flag is up can
abbrev pub is_next : List State → List (Option Condition) → List Bool → ℕ → Bool
is_next states conditions able r = is_waiting states r && not (flag able r) && may_go conditions (flag able) r

-- how many flags are down
abbrev pub down : List Bool → ℕ
down [] = 0
down (true ∷ xs) = down xs
down (false ∷ xs) = down xs + 1

-- no rank is to be tried
abbrev pub nobody : ℕ → Bool
nobody r = false

-- every rank is to be tried
abbrev pub everybody : ℕ → Bool
everybody r = true

-- what a try of the rank leaves: it was next and is released, or nothing changed
abbrev pub TriedAs : Bool → ℕ → List Bool → List ℕ → List Bool → List ℕ → Type 0
TriedAs true r able release able_after release_after = (able_after ≡ set able r true) × (release_after ≡ release ++ r ∷ [])
TriedAs false r able release able_after release_after = (able_after ≡ able) × (release_after ≡ release)

-- what a try of the rank leaves
abbrev pub Tried : List State → List (Option Condition) → ℕ → List Bool → List ℕ → List Bool → List ℕ → Type 0
Tried states conditions r able release able_after release_after = TriedAs (is_next states conditions able r) r able release able_after release_after

-- the same of the lists that hold the flags and the released ranks
abbrev pub Tries : List State → List (Option Condition) → ℕ → (able : Vec Bool Global) → (release : Vec ℕ Global) → Vec Bool Global → Vec ℕ Global → Type 0
Tries states conditions r able release able_after release_after = Tried states conditions r able.items release.items able_after.items release_after.items

-- The first `from` released ranks were gone through. A rank that is next is still to be tried, or its condition
-- names a released rank that was not gone through.
pub record Ready (states : List State) (conditions : List (Option Condition)) (from : ℕ) (todo : ℕ → Bool) (able : List Bool) (release : List ℕ) : Type 0 where
  pub len : length able ≡ length states
  pub few : down able + length release ≤ length states
  pub order : IsReleaseOrder states conditions release
  pub ties : (r : ℕ) → flag able r ≡ (is_free states r || among release r)
  pub next : (r : ℕ) → is_next states conditions able r ≡ true →
      (todo r ≡ true) ⊎ ((s : ℕ) × (among (drop from release) s ≡ true) × (among (names conditions r) s ≡ true))

-- Where these ranks were still to be tried, no rank is any more.
abbrev pub Settles : List State → List (Option Condition) → ℕ → (ℕ → Bool) → (able : Vec Bool Global) → (release : Vec ℕ Global) → Vec Bool Global → Vec ℕ Global → Type 0
Settles states conditions from todo able release able_after release_after =
    Ready states conditions from todo able.items release.items → Ready states conditions from nobody able_after.items release_after.items

-- what tries of these ranks leave, however many of the released ranks were gone through
abbrev pub TriedAll : List State → List (Option Condition) → List ℕ → (able : Vec Bool Global) → (release : Vec ℕ Global) → Vec Bool Global → Vec ℕ Global → Type 0
TriedAll states conditions ranks able release able_after release_after = (from : ℕ) → from ≤ length release.items →
    Settles states conditions from (among ranks) able release able_after release_after
