-- What stays of an index where a rank did other calls than was held.
use Rattle.std.specs.Prelude.{◌≡◌, ◌≤◌, ◌<◌, ◌-◌, ◌^◌, ◌⊎◌, ℕ, Option, Some, None, IfSome, List, length, take, drop, slice_get}
use Rattle.std.specs.List.{AllZip}
use Rattle.mpi_model.specs.declared.message.Message.{Message}
use Rattle.mpi_model.specs.declared.message.Receive.{Receive}
use Rattle.trace_ops.specs.declared.entered.Entered.{Entered}
use Rattle.trace_ops.specs.Ops.{Ops}
use Rattle.trace_ops.specs.Order.{Has}
use Rattle.trace_ops.specs.Round.{is_barrier, is_communication}
use Rattle.trace_pair.specs.declared.follow.Fronts.{Fronts}

-- no call behind this one completes the receive
abbrev pub IsEndedBy : Receive → ℕ → Type 0
IsEndedBy q last = (e : ℕ) → q.ended ≡ Some e → e ≤ last

-- the call of a collective call, where there is one
abbrev pub call_of : Option Entered → ℕ
call_of None = 2 ^ 64 - 1
call_of (Some x) = x.call

-- at a place of a list
abbrev pub call_at : List Entered → ℕ → ℕ
call_at rounds place = call_of (slice_get rounds place)

-- The same to what comes after what: on one communicator, by one call; both are Barriers or neither is, and both are
-- collective communications or neither is.
pub record IsAlike (x y : Entered) : Type 0 where
  pub comm : x.comm ≡ y.comm
  pub call : x.call ≡ y.call
  pub barrier : is_barrier x ≡ is_barrier y
  pub counted : is_communication x ≡ is_communication y

-- The lists have a front in common, and what follows it in either isn't before the call.
pub record AreOneBefore (last : ℕ) (a b : List Entered) : Type 0 where
  pub front : ℕ
  pub alike : AllZip IsAlike (take front a) (take front b)
  pub first : (x : Entered) → Has (drop front a) x → last ≤ x.call
  pub second : (x : Entered) → Has (drop front b) x → last ≤ x.call

-- The communicators are those that were, and the collective calls that differ stand neither before a message that stays
-- nor before the end of a receive that stays.
pub record AreAsBefore (old new : Ops) (f : Fronts) : Type 0 where
  pub comms : new.comms ≡ old.comms
  pub last : ℕ
  pub rounds : AreOneBefore last old.rounds new.rounds
  pub sends : (m : Message) → Has (take f.sends old.sends) m → m.name.call ≤ last
  pub receives : (q : Receive) → Has (take f.receives old.receives) q → IsEndedBy q last

-- The messages and receives that stay are the first of both, and what comes after what among them and the calls of
-- other ranks is as it was; or none stay.
pub record AreFronts (old new : Ops) (f : Fronts) : Type 0 where
  pub sends_old : f.sends ≤ length old.sends
  pub sends_new : f.sends ≤ length new.sends
  pub receives_old : f.receives ≤ length old.receives
  pub receives_new : f.receives ≤ length new.receives
  pub same_sends : take f.sends old.sends ≡ take f.sends new.sends
  pub same_receives : take f.receives old.receives ≡ take f.receives new.receives
  pub as_before : ((f.sends ≡ 0) × (f.receives ≡ 0)) ⊎ AreAsBefore old new f

-- where both lists go on with the same element at the place, the test says why it isn't in common
abbrev pub StopsWhere : {X : Type 0} → (X → Type 0) → List X → List X → ℕ → Type 0
StopsWhere P a b place = place < length a → place < length b → slice_get a place ≡ slice_get b place → IfSome (slice_get a place) P
