-- What an answer tells, and which answer is that of a layout and of what is known.
use Rattle.std.specs.Prelude.{◌≡◌, ◌↔◌, ℕ, ◌*◌, ◌-◌, ◌^◌, min, Bool, true, Option, Some, None, List, map, sum_by, unwrap_or, slice_get}
use Rattle.std.specs.List.{range_with_len}
use Rattle.std.specs.List.Sorted.{IsStrictlyIncreasing}
use Rattle.std.specs.Option.{option_map}
use Rattle.mpi_model.specs.Layouts.{Parts}
use Rattle.mpi_model.specs.declared.layout.Sends.{Sends}
use Rattle.mpi_model.specs.declared.event.Event.{Event}
use Rattle.mpi_model.specs.declared.event.Event.TheVariants.{Enter, Return}
use Rattle.mpi_model.specs.declared.event.OpName.{OpName}
use Rattle.trace_know.specs.View.{View}
use Rattle.trace_know.specs.Prefix.{event_at, prefix_of, is_beyond, is_unread}
use Rattle.trace_know.specs.Listing.{conflicts_of}
use Rattle.trace_ops.specs.Ops.{Ops}
use Rattle.trace_ops.specs.RankOps.{all_ops}
use Rattle.trace_ops.specs.declared.state.State.{State}
use Rattle.trace_pair.specs.Table.{table_of}
use Rattle.trace_pair.specs.declared.pair.Pair.{Pair}
use Rattle.trace_stuck.specs.Release.{among}
use Rattle.trace_stuck.specs.Shape.{Wait, OnNothing, shape}
use Rattle.trace_stuck.specs.Stuck.{IsStuck}
use Rattle.trace_stuck.specs.declared.condition.Condition.{Condition}
use Rattle.trace_wait.specs.Conditions.{conditions_from}
use Rattle.trace_wait.specs.Parts.{Run}
use Rattle.trace_wait.specs.Ranks.{ops_of}
use Rattle.trace_wait.specs.Rounds.{rounds_of}
use Rattle.trace_wait.specs.declared.round.Round.{Round}

-- A stuck rank: the call in which it waits, the wall time at which it entered that, and what it waits for.
pub record Stopped : Type 0 where
  pub rank : ℕ
  pub call : ℕ
  pub wall : ℕ
  pub waits : Wait

-- What an answer tells. The lists of ranks have rank r at place r; conflicts go by rank and place, pairs and postponed
-- messages by message, rounds by communicator and number, stuck ranks rise.
pub record Answered : Type 0 where
  pub ranks : ℕ
  pub sends : Sends
  pub prefixes : List ℕ
  pub beyond : List Bool
  pub unread : List Bool
  pub conflicts : List (ℕ × ℕ)
  pub pairs : List Pair
  pub postponed : List OpName
  pub rounds : List Round
  pub states : List State
  pub stuck : List Stopped
  pub foreign : ℕ

-- ---- by rank

-- the ranks of the layout, in rising order
abbrev pub ranks_of : Parts → List ℕ
ranks_of layout = range_with_len 0 layout.ranks

-- the readable prefix of each rank
abbrev pub prefixes_of : Parts → View → List ℕ
prefixes_of layout view = map (prefix_of view) (ranks_of layout)

-- of each rank, whether something is known past its readable prefix
abbrev pub beyond_of : Parts → View → List Bool
beyond_of layout view = map (is_beyond view) (ranks_of layout)

-- of each rank, whether its readable prefix ends at the Enter of an unread call
abbrev pub unread_of : Parts → View → List Bool
unread_of layout view = map (is_unread view) (ranks_of layout)

-- how each rank stands
abbrev pub states_of : List Ops → List State
states_of ops = map (λ o. o.state) ops

-- how many foreign calls the ranks entered; the count stays at the greatest of 64 bits
abbrev pub foreign_of : List Ops → ℕ
foreign_of ops = min (sum_by (λ o. o.foreign) ops) (2 ^ 64 - 1)

-- ---- what ranks wait for

-- the run of these ops, as conditions look at it
abbrev pub run_of : Parts → List Ops → Run
run_of layout ops = record { layout = layout; ops = ops; pairs = (table_of ops).pairs; rounds = rounds_of layout.comms ops }

-- what each rank waits for, where it does
abbrev pub waits_of : Parts → List Ops → List (Option Wait)
waits_of layout ops = conditions_from (run_of layout ops) 0 ops

-- what each of these conditions waits for; where its parts lie in memory is left out
abbrev pub shapes : List (Option Condition) → List (Option Wait)
shapes conditions = map (option_map shape) conditions

-- The rank is stuck where these are the conditions. They say it as trees; where their parts lie in memory is left out.
abbrev pub IsStuckBy : List State → List (Option Wait) → ℕ → Type 0
IsStuckBy states waits r = (conditions : List (Option Condition)) × (shapes conditions ≡ waits) × IsStuck states conditions r

-- the stuck ranks, in rising order
pub record AreStuck (states : List State) (waits : List (Option Wait)) (ranks : List ℕ) : Type 0 where
  pub rising : IsStrictlyIncreasing ranks
  pub stuck : (r : ℕ) → (among ranks r ≡ true) ↔ IsStuckBy states waits r

-- A rising list of the ranks that are stuck under some conditions tells those that are stuck under their shapes.
abbrev pub StuckGoByShape : Type 0
StuckGoByShape = (ranks : List ℕ) (states : List State) (conditions : List (Option Condition)) → IsStrictlyIncreasing ranks
    → ((r : ℕ) → (among ranks r ≡ true) ↔ IsStuck states conditions r) → AreStuck states (shapes conditions) ranks

-- the number of the call in which a rank waits
abbrev pub call_of : Ops → ℕ
call_of o = unwrap_or (option_map (λ w. w.0) o.waiting) 0

-- the wall time at which a call was entered
abbrev pub entry_of : Option Event → ℕ
entry_of (Some (Enter call time)) = time.wall
entry_of (Some (Return outs time)) = 0
entry_of None = 0

-- the wall time of a call's Enter, which stands at twice the call's number
abbrev pub wall_of : View → ℕ → ℕ → ℕ
wall_of view rank call = entry_of (event_at view rank (2 * call))

-- what a rank waits for
abbrev pub wait_at : List (Option Wait) → ℕ → Wait
wait_at waits r = unwrap_or (unwrap_or (slice_get waits r) None) OnNothing

-- what is told of a stuck rank
abbrev pub stopped_in : View → List (Option Wait) → ℕ → ℕ → Stopped
stopped_in view waits r call = record { rank = r; call = call; wall = wall_of view r call; waits = wait_at waits r }

-- where a stuck rank stands, and what it waits for
abbrev pub stopped_at : View → List Ops → List (Option Wait) → ℕ → Stopped
stopped_at view ops waits r = stopped_in view waits r (call_of (ops_of ops r))

-- The list tells of each stuck rank, in rising order, where it stands and what it waits for.
abbrev pub TellsStuck : Parts → View → List Ops → List Stopped → Type 0
TellsStuck layout view ops told = (ranks : List ℕ) × AreStuck (states_of ops) (waits_of layout ops) ranks
    × (told ≡ map (stopped_at view ops (waits_of layout ops)) ranks)

-- ---- the answer

-- what an answer tells of these ops
pub record IsAnswerBy (layout : Parts) (view : View) (ops : List Ops) (a : Answered) : Type 0 where
  pub ranks : a.ranks ≡ layout.ranks
  pub sends : a.sends ≡ layout.sends
  pub prefixes : a.prefixes ≡ prefixes_of layout view
  pub beyond : a.beyond ≡ beyond_of layout view
  pub unread : a.unread ≡ unread_of layout view
  pub conflicts : a.conflicts ≡ conflicts_of view
  pub pairs : a.pairs ≡ (table_of ops).pairs
  pub postponed : a.postponed ≡ (table_of ops).postponed
  pub rounds : a.rounds ≡ rounds_of layout.comms ops
  pub states : a.states ≡ states_of ops
  pub stuck : TellsStuck layout view ops a.stuck
  pub foreign : a.foreign ≡ foreign_of ops

-- The answer of what is known. There is one (`answers_are_one`).
abbrev pub IsAnswer : Parts → View → Answered → Type 0
IsAnswer layout view a = IsAnswerBy layout view (all_ops layout view) a

-- Two answers of one layout and one view are equal.
abbrev pub AnswersAreOne : Type 0
AnswersAreOne = (layout : Parts) (view : View) (one other : Answered) → IsAnswer layout view one → IsAnswer layout view other → one ≡ other

-- ---- parts of two answers

-- both tell the same of the ranks
pub record HasSameRanks (one other : Answered) : Type 0 where
  pub ranks : one.ranks ≡ other.ranks
  pub sends : one.sends ≡ other.sends
  pub prefixes : one.prefixes ≡ other.prefixes
  pub states : one.states ≡ other.states

-- both tell the same of places and foreign calls
pub record HasSamePlaces (one other : Answered) : Type 0 where
  pub beyond : one.beyond ≡ other.beyond
  pub unread : one.unread ≡ other.unread
  pub conflicts : one.conflicts ≡ other.conflicts
  pub foreign : one.foreign ≡ other.foreign

-- both tell the same of messages, rounds and stuck ranks
pub record HasSameCalls (one other : Answered) : Type 0 where
  pub pairs : one.pairs ≡ other.pairs
  pub postponed : one.postponed ≡ other.postponed
  pub rounds : one.rounds ≡ other.rounds
  pub stuck : one.stuck ≡ other.stuck
