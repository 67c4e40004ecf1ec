-- Ranks that poll, as the code has them. No public clause speaks of it.
use Rattle.std.specs.Prelude.{◌≡◌, ◌<◌, ◌≤◌, ℕ, Bool, ◌==◌, Option, Some, List, [], ◌∷◌, length, if◌then◌else◌, map}
use Rattle.mpi_model.specs.declared.call.Call.{Call}
use Rattle.trace_stuck.specs.Shape as waits
use Rattle.trace_stuck.specs.Shape.{OnOne, shape, waits_of}
use Rattle.std.specs.Option.{option_map}
use Rattle.trace_stuck.specs.declared.condition.Condition.{Condition}
use Rattle.trace_wait.specs.declared.polls.Poll.{Poll}
use Rattle.trace_wait.specs.Conditions.{run_of}
use Rattle.trace_diagnosis.specs.Conditions.{Asker, conditions, has_gone_on, unless, wait_at}
use Rattle.trace_diagnosis.specs.declared.conditions.Case.{Case}
use Rattle.trace_diagnosis.specs.declared.conditions.Poller.{Poller}
use Rattle.trace_diagnosis.specs.declared.polls.Asked.{Asked}

-- a poll by its number and its call
abbrev pub asked_plain : Asked → ℕ × Call
asked_plain a = (a.number, a.call.now)

-- a rank that polls, by its polls
abbrev pub asker : Poller → Asker
asker p = record { rank = p.rank; calls = map asked_plain p.asked.items }

-- the polls of a rank, each with the rank
abbrev pub polls_by : Poller → List (ℕ × (ℕ × Call))
polls_by p = map (λ a. (p.rank, asked_plain a)) p.asked.items

-- a rank that polls, with the number of its polls
abbrev pub poller_plain : Poller → ℕ × ℕ
poller_plain p = (p.rank, p.tail.count)

-- a poll of a list of all
abbrev pub poll_plain : Poll → ℕ × (ℕ × Call)
poll_plain p = (p.rank, (p.number, p.call.now))

-- the shapes of the ranks' conditions
abbrev pub shapes : List (Option Condition) → List (Option waits.Wait)
shapes conditions = map (option_map shape) conditions

-- the condition of a rank: one of what this makes of the first of these that is it, and else its own
abbrev pub put_or : (Poller → List waits.Wait) → List Poller → ℕ → Option waits.Wait → Option waits.Wait
put_or f [] r own = own
put_or f (p ∷ pollers) r own = if p.rank == r then Some (OnOne (waits_of (f p))) else put_or f pollers r own

-- The conditions have been put at the places of these.
pub record ArePut (f : Poller → List waits.Wait) (pollers : List Poller) (old new : List (Option Condition)) : Type 0 where
  pub len : length new ≡ length old
  pub each : (r : ℕ) → r < length old → wait_at (shapes new) r ≡ put_or f pollers r (wait_at (shapes old) r)

-- The conditions of the ranks below this one have been taken from those that have gone on.
pub record AreDropped (gone : ℕ → Bool) (rank : ℕ) (old new : List (Option Condition)) : Type 0 where
  pub len : length new ≡ length old
  pub below : (r : ℕ) → r < rank → wait_at (shapes new) r ≡ unless (gone r) (wait_at (shapes old) r)
  pub others : (r : ℕ) → rank ≤ r → wait_at (shapes new) r ≡ wait_at (shapes old) r

-- what the ranks of a case wait or poll for
abbrev pub case_conditions : Case → List (Option waits.Wait)
case_conditions case =
    conditions (run_of case.layout.now case.ops.now case.answer.now.pairs case.answer.now.rounds) (map asker case.pollers.now)
    (has_gone_on case.know.now case.cut.now case.stuck.now) case.ranks
