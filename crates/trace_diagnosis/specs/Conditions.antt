-- What each rank waits or polls for.
use Rattle.std.specs.Prelude.{ℕ, Bool, true, false, ◌&&◌, ◌==◌, not, Option, Some, None, List, [], ◌∷◌, if◌then◌else◌, map, slice_get, unwrap_or}
use Rattle.std.specs.List.{range_with_len}
use Rattle.mpi_model.specs.declared.call.Call.{Call}
use Rattle.trace_know.specs.Prefix.{is_beyond}
use Rattle.trace_know.specs.View.{View}
use Rattle.trace_stuck.specs.Graph.{is_up}
use Rattle.trace_stuck.specs.Release.{among}
use Rattle.trace_stuck.specs.Shape as waits
use Rattle.trace_stuck.specs.Shape.{OnOne, waits_of}
use Rattle.trace_wait.specs.Conditions.{conditions_from}
use Rattle.trace_wait.specs.Parts.{Run}
use Rattle.trace_wait.specs.Polls.{asked_by}
use Rattle.trace_wait.specs.Ranks.{ops_of}
use Rattle.diagnosis_value.specs.declared.diagnosis.Polled.{Polled}
use Rattle.diagnosis_value.specs.declared.diagnosis.Polling.{Polling}

-- A rank that polls, with the numbers and the calls of what it polls for.
pub record Asker : Type 0 where
  pub rank : ℕ
  pub calls : List (ℕ × Call)

-- what is told of a poll
abbrev pub polled_plain : Polled → ℕ × Call
polled_plain c = (c.number, c.call)

-- what is told of a rank that polls
abbrev pub asker_told : Polling → Asker
asker_told p = record { rank = p.rank; calls = map polled_plain p.calls.items }

-- what the Wait or Probe of the same content would wait for
abbrev pub asked_at : Run → ℕ → ℕ × Call → waits.Wait
asked_at run r c = asked_by run r (ops_of run.ops r) c.0 c.1

-- what it polls for: one of these
abbrev pub asked : Run → Asker → List waits.Wait
asked run a = map (asked_at run a.rank) a.calls

-- what a rank polls for, where it is one of these, and else what it waits for
abbrev pub polled_or : Run → List Asker → ℕ → Option waits.Wait → Option waits.Wait
polled_or run [] r own = own
polled_or run (a ∷ askers) r own = if a.rank == r then Some (OnOne (waits_of (asked run a))) else polled_or run askers r own

-- Its text was cut, and it isn't stuck: the rank has gone on.
abbrev pub has_gone_on : View → List Bool → List ℕ → ℕ → Bool
has_gone_on view cut stuck r = is_up cut r && not (is_beyond view r) && not (among stuck r)

-- the condition at a rank
abbrev pub wait_at : List (Option waits.Wait) → ℕ → Option waits.Wait
wait_at ws r = unwrap_or (slice_get ws r) None

-- the rank waits or polls
abbrev pub does_wait : Option waits.Wait → Bool
does_wait None = false
does_wait (Some w) = true

-- none where the rank has gone on
abbrev pub unless : Bool → Option waits.Wait → Option waits.Wait
unless gone own = if gone then None else own

-- What a rank waits or polls for: its call's condition, or its poll condition where it polls; a rank that has gone on
-- has none.
abbrev pub condition_at : Run → List Asker → (ℕ → Bool) → ℕ → Option waits.Wait
condition_at run askers gone r = unless (gone r) (polled_or run askers r (wait_at (conditions_from run 0 run.ops) r))

-- what so many ranks wait or poll for
abbrev pub conditions : Run → List Asker → (ℕ → Bool) → ℕ → List (Option waits.Wait)
conditions run askers gone ranks = map (condition_at run askers gone) (range_with_len 0 ranks)
