-- What is told of who waits for whom.
use Rattle.std.specs.Prelude.{◌≡◌, ℕ, Bool, Option, Some, None, List, [], ◌∷◌, if◌then◌else◌, map}
use Rattle.std.specs.List.{flat_map, range_with_len}
use Rattle.mpi_model.specs.Layouts.{Parts}
use Rattle.trace_know.specs.View.{View}
use Rattle.trace_node.specs.Answer.{Answered}
use Rattle.trace_ops.specs.RankOps.{all_ops}
use Rattle.trace_stuck.specs.Shape as waits
use Rattle.trace_stuck.specs.Shape.{shape}
use Rattle.trace_wait.specs.Conditions.{run_of}
use Rattle.trace_diagnosis.specs.Conditions.{asker_told, conditions, has_gone_on, wait_at}
use Rattle.trace_diagnosis.specs.Holding.{holds, nobody}
use Rattle.trace_diagnosis.specs.Roots.{HaveRoots}
use Rattle.diagnosis_value.specs.declared.diagnosis.Held.{Held}
use Rattle.diagnosis_value.specs.declared.diagnosis.Polling.{Polling}
use Rattle.diagnosis_value.specs.declared.diagnosis.Waiting.{Waiting}

-- what the ranks wait or poll for, where these are told to poll
abbrev pub told_conditions : Parts → View → List Bool → Answered → List Polling → List (Option waits.Wait)
told_conditions layout view cut answer polls =
    conditions (run_of layout (all_ops layout view) answer.pairs answer.rounds) (map asker_told polls)
    (has_gone_on view cut (map (λ s. s.rank) answer.stuck)) layout.ranks

-- a held rank with its condition
abbrev pub held_told : Held → ℕ × waits.Wait
held_told h = (h.rank, shape h.waits)

-- the rank with this condition, where it is held
abbrev pub held_by : ℕ → Option waits.Wait → List (ℕ × waits.Wait)
held_by r None = []
held_by r (Some w) = if holds nobody w then [] else (r, w) ∷ []

-- the same, by its place among all conditions
abbrev pub held_at : List (Option waits.Wait) → ℕ → List (ℕ × waits.Wait)
held_at ws r = held_by r (wait_at ws r)

-- all held ranks
abbrev pub held_in : List (Option waits.Wait) → ℕ → List (ℕ × waits.Wait)
held_in ws ranks = flat_map (held_at ws) (range_with_len 0 ranks)

-- All held ranks are told, in rising order, each with its condition; and the roots are those of what the ranks wait or
-- poll for.
pub record IsWaiting (able : List Bool) (ranks : ℕ) (ws : List (Option waits.Wait)) (told : Waiting) : Type 0 where
  pub held : map held_told told.held.items ≡ held_in ws ranks
  pub roots : HaveRoots able ranks ws told.roots.items
