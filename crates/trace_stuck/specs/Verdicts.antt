-- What is left when all that can be released was.
use Rattle.std.specs.Prelude.{ℕ, Bool, Option, ◌&&◌, ◌||◌, not, zero, suc, List, [], ◌∷◌, ◌++◌, if◌then◌else◌}
use Rattle.trace_ops.specs.declared.state.State.{State}
use Rattle.trace_stuck.specs.Release.{left, among}
use Rattle.trace_stuck.specs.States.{is_waiting, is_free, is_ended}
use Rattle.trace_stuck.specs.Holds.{may_go}
use Rattle.trace_stuck.specs.declared.condition.Condition.{Condition}

-- the ranks below `count` that wait and are not in the list
abbrev pub left_below : List State → List ℕ → ℕ → List ℕ
left_below states release zero = []
left_below states release (suc count) = left_below states release count ++ (if left states release count then count ∷ [] else [])

-- the rank may be released after these
abbrev pub is_step : List State → List (Option Condition) → List ℕ → ℕ → Bool
is_step states conditions before r = is_waiting states r && not (among before r) && may_go conditions (λ s. is_free states s || among before s) r

-- the rank waits, and may not go on where just the ranks outside the list that have not ended can
abbrev pub is_shut : List State → List (Option Condition) → List ℕ → ℕ → Bool
is_shut states conditions ranks r = is_waiting states r && not (may_go conditions (λ s. not (among ranks s) && not (is_ended states s)) r)
