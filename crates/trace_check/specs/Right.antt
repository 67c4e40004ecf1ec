-- When a verdict is right.
use Rattle.std.specs.Prelude.{◌≡◌, ◌≢◌, ◌↔◌, ◌||◌, not, ℕ, Bool, true, Option, List}
use Rattle.std.specs.List.{AllPairs}
use Rattle.trace_ops.specs.declared.state.State.{State}
use Rattle.trace_stuck.specs.declared.condition.Condition.{Condition}
use Rattle.trace_stuck.specs.Release.{IsReleaseOrder, among, left}
use Rattle.trace_stuck.specs.States.{is_waiting}
use Rattle.trace_stuck.specs.Stuck.{IsStuck}
use Rattle.trace_stuck.specs.declared.verdict.Verdict.{Verdict}

-- the rank doesn't wait, or stands in one of the lists
abbrev pub is_listed : List State → List ℕ → List ℕ → ℕ → Bool
is_listed states stuck release r = not (is_waiting states r) || (among stuck r || among release r)

-- Each waiting rank stands in one of the lists.
abbrev pub AreAllListed : List State → List ℕ → List ℕ → Type 0
AreAllListed states stuck release = (r : ℕ) → is_listed states stuck release r ≡ true

-- The verdict is right: it lists the stuck ranks, each once, and a release order of the waiting ranks that it doesn't
-- list as stuck.
pub record IsRight (states : List State) (conditions : List (Option Condition)) (stuck release : List ℕ) : Type 0 where
  pub lists : (r : ℕ) → (among stuck r ≡ true) ↔ IsStuck states conditions r
  pub once : AllPairs (λ r s. r ≢ s) stuck
  pub order : IsReleaseOrder states conditions release
  pub others : (r : ℕ) → among stuck r ≡ left states release r

-- both lists of a verdict are right
abbrev pub IsRightVerdict : List State → List (Option Condition) → Verdict → Type 0
IsRightVerdict states conditions verdict = IsRight states conditions verdict.stuck.items verdict.release.items
