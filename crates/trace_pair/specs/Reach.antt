-- The table by which it is asked what comes after a receive.
use Rattle.std.specs.Prelude.{◌≡◌, ℕ, Bool, true, false, ◌==◌, ◌&&◌, ◌||◌, nat_le, cond, unwrap_or, Option, Some, None, List, [], ◌∷◌, length, filter, slice_index, slice_set}
use Rattle.std.specs.List.{list_any, AllZip}
use Rattle.std.specs.List.Sorted.{IsNonDecreasing}
use Rattle.std.specs.Ordering.{nat_cmp}
use Rattle.std.specs.BTreeMap.{BTreeMap, get}
use Rattle.trace_ops.specs.Ops.{Ops}
use Rattle.trace_ops.specs.Order.{AreEntered}
use Rattle.trace_ops.specs.Round.{is_communication}
use Rattle.trace_ops.specs.declared.entered.Entered.{Entered}
use Rattle.trace_pair.specs.After.{communicating}
use Rattle.trace_pair.specs.Barriers.{OnComm, Rise, no_entries, on_comm, calls_on, barriers_on, last_before, with_entry}
use Rattle.trace_pair.specs.declared.reach.Barrier.{Barrier}
use Rattle.trace_pair.specs.declared.reach.RankReach.{RankReach}

-- the calls on a communicator: none, where it has no row
abbrev pub row_at : BTreeMap ℕ OnComm → ℕ → OnComm
row_at rows comm = unwrap_or (get nat_cmp rows comm) no_entries

-- for each communicator, the collective calls there
abbrev pub AreRowsOf : List Entered → BTreeMap ℕ OnComm → Type 0
AreRowsOf rounds rows = (c : ℕ) → row_at rows c ≡ on_comm c rounds

-- a call more, in the row of its communicator
abbrev pub AddsEntry : BTreeMap ℕ OnComm → BTreeMap ℕ OnComm → Entered → Type 0
AddsEntry old new x = (c : ℕ) → row_at new c ≡ cond (x.comm == c) (with_entry (row_at old c) x) (row_at old c)

-- a call more, in the row of its communicator where it is a collective communication
abbrev pub AddsCounted : BTreeMap ℕ OnComm → BTreeMap ℕ OnComm → Entered → Type 0
AddsCounted old new x = (c : ℕ) → row_at new c ≡ cond (is_communication x) (cond (x.comm == c) (with_entry (row_at old c) x) (row_at old c)) (row_at old c)

-- whether there are Barriers on the communicator
abbrev pub has_barrier : OnComm → Bool
has_barrier row = has row.barriers
  where
    has : List Barrier → Bool
    has [] = false
    has (b ∷ bs) = true

-- the communicators with Barriers
abbrev pub with_barriers : BTreeMap ℕ OnComm → List ℕ → List ℕ
with_barriers rows comms = filter (λ c. has_barrier (row_at rows c)) comms

-- the Barriers of each row rise
abbrev pub AreRowsRising : RankReach → Type 0
AreRowsRising reach = (c : ℕ) → Rise (row_at reach.rows c).barriers

-- the communicator holds the rank
abbrev pub holds : RankReach → ℕ → Bool
holds reach comm = list_any (λ c. c == comm) reach.comms.items

-- the part of the table that the ops of one rank decide
pub record IsReachOf (ops : Ops) (reach : RankReach) : Type 0 where
  pub rounds_rise : AreEntered ops.rounds
  pub rows : AreRowsOf ops.rounds reach.rows
  pub barrier_comms : reach.barrier_comms.items ≡ with_barriers reach.rows ops.comms
  pub comms : (c : ℕ) → holds reach c ≡ list_any (λ x. x == c) ops.comms
  pub comms_rise : IsNonDecreasing reach.comms.items

-- The table has of each rank the part that its ops decide, by its collective communications.
abbrev pub IsCommunicating : Ops → RankReach → Type 0
IsCommunicating ops reach = IsReachOf (communicating ops) reach

-- the same of all ranks
abbrev pub AreReachesOf : List Ops → List RankReach → Type 0
AreReachesOf ops reaches = AllZip IsCommunicating ops reaches

-- the table follows the new ops of a rank
abbrev pub RenewsReach : ℕ → Ops → List RankReach → List RankReach → Type 0
RenewsReach rank own old new = (ops : List Ops) → AreReachesOf ops old → AreReachesOf (slice_set ops rank own) new

-- The call with so many calls before it isn't there, or isn't before call `ended`.
abbrev pub is_entered_behind : List ℕ → ℕ → ℕ → Bool
is_entered_behind calls ended before = nat_le (length calls) before || nat_le ended (slice_index calls before)

-- A Barrier with so many calls before it was found, and the receiver's rank didn't enter it before call `ended`.
abbrev pub is_met : Option ℕ → List ℕ → ℕ → Bool
is_met None calls ended = false
is_met (Some before) calls ended = is_entered_behind calls ended before

-- Of the sender's Barriers on the communicator the last one before the call was entered by the receiver's rank behind
-- call `ended`.
abbrev pub is_passed_in : List Entered → Ops → ℕ → ℕ → ℕ → Bool
is_passed_in rounds receiver call ended comm =
    list_any (λ c. c == comm) receiver.comms && is_met (last_before call (barriers_on comm 0 rounds)) (calls_on comm receiver.rounds) ended

-- the same, by the tables of both
abbrev pub is_passed_on : RankReach → RankReach → ℕ → ℕ → ℕ → Bool
is_passed_on sender receiver call ended comm = holds receiver comm && is_met (last_before call (row_at sender.rows comm).barriers) (row_at receiver.rows comm).calls ended
