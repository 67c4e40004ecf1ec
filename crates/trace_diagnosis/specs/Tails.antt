-- Which ranks poll: those whose last calls are polls without success.
use Rattle.std.specs.Prelude.{ℕ, zero, suc, ◌+◌, ◌-◌, ◌==◌, Bool, true, false, ◌&&◌, not, nat_le, Option, Some, None, List, [], ◌∷◌, count_by, if◌then◌else◌}
use Rattle.std.specs.List.{range_with_len}
use Rattle.mpi_model.specs.declared.call.Call.{Call}
use Rattle.mpi_model.specs.declared.call.Call.TheVariants.{Local}
use Rattle.mpi_model.specs.declared.event.Event.{Event}
use Rattle.mpi_model.specs.declared.outcome.Outs.{Outs}
use Rattle.trace_know.specs.Prefix.{events_of, is_beyond}
use Rattle.trace_know.specs.View.{View}
use Rattle.trace_ops.specs.Ops.{Ops}
use Rattle.trace_ops.specs.declared.state.State.{State}
use Rattle.trace_ops.specs.declared.state.State.TheVariants.{Free, Waiting, Ended}
use Rattle.trace_stuck.specs.Graph.{is_up}
use Rattle.trace_wait.specs.Ranks.{ops_of}
use Rattle.trace_diagnosis.specs.Called.{called_in, count_of}
use Rattle.trace_diagnosis.specs.Polls.{is_poll, is_unsuccessful}
use Rattle.diagnosis_value.specs.declared.diagnosis.Polling.{Polling}
use Rattle.trace_diagnosis.specs.declared.polls.Part.{Part}
use Rattle.trace_diagnosis.specs.declared.polls.Part.TheVariants as parts

-- what a returned call is that is no poll without success
abbrev pub returned_part : Call → Part
returned_part Local = parts.Local
returned_part call = parts.Other

-- what a call is among the last calls of a rank
abbrev pub part_of : Call → Option Outs → Part
part_of call (Some outs) = if is_unsuccessful call outs then parts.Poll else returned_part call
part_of call None = if is_poll call then parts.Pending else parts.Other

-- what the call of a number is
abbrev pub part_in : List Event → ℕ → Part
part_in events n = by (called_in events n)
  where
    by : Option (Call × Option Outs) → Part
    by None = parts.Other
    by (Some called) = part_of called.0 called.1

-- a poll without success
abbrev pub is_poll_part : Part → Bool
is_poll_part parts.Poll = true
is_poll_part parts.Pending = false
is_poll_part parts.Local = false
is_poll_part parts.Other = false

-- It may stand among the last calls of a rank that polls: what hasn't returned only as the last of all.
abbrev pub may_stand : Bool → Part → Bool
may_stand is_last parts.Poll = true
may_stand is_last parts.Local = true
may_stand is_last parts.Pending = is_last
may_stand is_last parts.Other = false

-- the same of the call of a number
abbrev pub stands_in : List Event → ℕ → Bool
stands_in events n = may_stand (n + 1 == count_of events) (part_in events n)

-- the first of the numbers below this one, from which on all may stand
abbrev pub first_from : (ℕ → Bool) → ℕ → ℕ
first_from may zero = 0
first_from may (suc n) = if may n then first_from may n else suc n

-- the first call of the longest tail
abbrev pub tail_first : List Event → ℕ
tail_first events = first_from (stands_in events) (count_of events)

-- how many polls without success are among the calls from a number on
abbrev pub polls_from : List Event → ℕ → ℕ
polls_from events first = count_by (λ n. is_poll_part (part_in events n)) (range_with_len first (count_of events - first))

-- The rank is free, with nothing beyond, and its text isn't cut.
abbrev pub is_going : State → Bool → Bool → Bool
is_going Free beyond cut = not beyond && not cut
is_going Waiting beyond cut = false
is_going Ended beyond cut = false

-- A rank that polls, with the number of its polls.
abbrev pub polling_by : ℕ → ℕ → List (ℕ × ℕ)
polling_by r count = if nat_le 2 count then (r, count) ∷ [] else []

-- the rank, where it polls: by its longest tail, which has two polls at least
abbrev pub polling_at : View → List Ops → List Bool → ℕ → List (ℕ × ℕ)
polling_at view ops cut r =
    if is_going (ops_of ops r).state (is_beyond view r) (is_up cut r) then polling_by r (polls_from (events_of view r) (tail_first (events_of view r))) else []

-- what is told of it
abbrev pub polling_told : Polling → ℕ × ℕ
polling_told p = (p.rank, p.count)
