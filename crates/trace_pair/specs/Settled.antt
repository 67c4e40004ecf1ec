-- What a pairing of all messages has found, once it has seen some of the receives.
use Rattle.std.specs.Prelude.{◌≡◌, ◌<◌, ◌⊎◌, ℕ, Bool, true, Option, Some, None, IfSome, List, [], ◌∷◌, length, slice_get}
use Rattle.std.specs.List.{AllZip}
use Rattle.mpi_model.specs.declared.event.OpName.{OpName}
use Rattle.mpi_model.specs.declared.message.Message.{Message}
use Rattle.mpi_model.specs.declared.message.Receive.{Receive}
use Rattle.trace_ops.specs.Order.{Has}
use Rattle.trace_pair.specs.Calls.{AddsReceives, ArePostedApart, IsOwnReceive, IsPosting, between}
use Rattle.trace_pair.specs.Ends.{AreRanked}
use Rattle.trace_pair.specs.Indexed.{AreSets, Found, IsIndexed, IsOfferedMessage, OffersMessage, is_of, AwaitReceives, with_kind}
use Rattle.trace_pair.specs.Pairing.{After, Paired, receive_of}
use Rattle.trace_pair.specs.Rising.{AreRising}
use Rattle.trace_pair.specs.Sets.{AddsTo}
use Rattle.trace_pair.specs.Table.{Table, fits_open, table_with, with_pair, with_postponed}
use Rattle.trace_pair.specs.Waiting.{waiting_in, couples_with}
use Rattle.trace_pair.specs.declared.batch.Batch.{Batch}
use Rattle.trace_pair.specs.declared.pair.Couple.{Couple}
use Rattle.trace_pair.specs.declared.pair.Pair.{Pair}

-- the messages that wait
abbrev pub waiting_of : Batch → List Message
waiting_of b = waiting_in b.messages.messages b.messages.takers

-- the couples: messages with the receives that take them
abbrev pub couples_of : Batch → List Couple
couples_of b = couples_with b.messages.messages b.messages.takers

-- It stands for these messages and receives as an index does: the pairs, and what is in none. Of the open receives it
-- has the last ends.
pub record Settles (after : After) (ms : List Message) (qs : List Receive) (b : Batch) : Type 0 where
  pub messages : b.messages.messages ≡ ms
  pub rise : AreRising (λ m. m.name) ms
  pub opened : List Receive
  pub held : IsIndexed after ms qs (waiting_of b) b.free opened (couples_of b)
  pub last : AreRanked opened b.opened

-- it stands for the receives of a call more, behind those of their rank
abbrev pub SettlesCall : After → List Receive → Batch → Batch → Type 0
SettlesCall after call old new = (ms : List Message) (qs more : List Receive) → AddsReceives qs more call → ArePostedApart more → Settles after ms qs old → Settles after ms more new

-- The same of receives of which some are done: of the pairs of all receives it has those alone whose receives are.
pub record SettlesAmong (after : After) (ms : List Message) (all done qs : List Receive) (b : Batch) : Type 0 where
  pub messages : b.messages.messages ≡ ms
  pub rise : AreRising (λ m. m.name) ms
  pub opened : List Receive
  pub held : AreSets (Found after ms all (λ m r. Has done r)) ms qs (waiting_of b) b.free opened (couples_of b)
  pub last : AreRanked opened b.opened

-- Of the receives that are done are those that were there. The parts of the call that are of any tag, or those of a
-- tag, come next: none of them is done, and before those of a tag all of any tag are.
pub record IsNextKind (any_tag : Bool) (qs call done : List Receive) : Type 0 where
  pub keeps : (r : Receive) → Has qs r → Has done r
  pub fresh : (r : Receive) → Has call r → is_of any_tag r.tag ≡ true → Has done r → ⊥
  pub order : (r : Receive) → Has call r → r.tag ≡ None → (any_tag ≡ true) ⊎ Has done r

-- The same of one part of the call, which comes next.
pub record IsNextPart (qs call done : List Receive) (q : Receive) : Type 0 where
  pub keeps : (r : Receive) → Has qs r → Has done r
  pub fresh : Has done q → ⊥
  pub order : (r : Receive) → Has call r → r.tag ≡ None → (q.tag ≡ None) ⊎ Has done r

-- if there is a place, a message stands there
abbrev pub IsWithin : Batch → Option ℕ → Type 0
IsWithin b place = IfSome place (λ p. p < length b.messages.messages)

-- the receive is offered the message at the place, or none
abbrev pub IsOfferedAt : After → List Message → List Receive → List Receive → Receive → Option ℕ → Type 0
IsOfferedAt after ms qs more q None = IsOfferedMessage after ms qs more q None
IsOfferedAt after ms qs more q (Some place) = (m : Message) × (slice_get ms place ≡ Some m) × IsOfferedMessage after ms qs more q (Some m)

-- the receive, alone of its call, takes the message at the place, or none
abbrev pub IsTakenAt : After → List Message → List Receive → List Receive → Receive → Option ℕ → Type 0
IsTakenAt after ms qs more q None = IsOfferedMessage after ms qs more q None
IsTakenAt after ms qs more q (Some place) = (m : Message) × (slice_get ms place ≡ Some m) × OffersMessage after ms qs more q m × Paired after ms more m q

-- what takes the message at the place, or None, for all that the pairing has seen
abbrev pub IsTakerAt : Batch → ℕ → Message → Option Receive → Type 0
IsTakerAt b place m taker = (after : After) (ms : List Message) (qs : List Receive) → Settles after ms qs b → slice_get ms place ≡ Some m → taker ≡ receive_of after ms qs m

-- whether an open receive fits the message, which doesn't come after it
abbrev pub TellsOpenFit : After → Batch → Message → Bool → Type 0
TellsOpenFit after b m told = (ms : List Message) (qs : List Receive) → Settles after ms qs b → told ≡ fits_open after qs m

-- a receive of a new call is offered the message at the place, or none
abbrev pub OffersPlace : After → Batch → Receive → Option ℕ → Type 0
OffersPlace after b q place = (ms : List Message) (qs more call free opened : List Receive) → AddsReceives qs more call → Has call q → AreRanked opened b.opened → b.messages.messages ≡ ms
    → AwaitReceives after ms qs more (waiting_of b) free opened (couples_of b) → IsOfferedAt after ms qs more q place

-- a receive that is alone of its call takes the message at the place, or none
abbrev pub TakesPlace : After → Batch → Receive → Option ℕ → Type 0
TakesPlace after b q place = (ms : List Message) (qs more : List Receive) → AddsReceives qs more (q ∷ []) → ArePostedApart more → Settles after ms qs b → IsTakenAt after ms qs more q place

-- each receive of a new call that has come is offered the message at its place, or none
abbrev pub OffersPlaces : After → Batch → List Receive → List (Option ℕ) → Type 0
OffersPlaces after b call places = (ms : List Message) (qs more : List Receive) → AddsReceives qs more call → SettlesAmong after ms more qs more b → AllZip (IsOfferedAt after ms qs more) call places

-- the receive comes, and isn't done
abbrev pub EntersReceive : Receive → Batch → Batch → Type 0
EntersReceive q old new = (after : After) (ms : List Message) (all done qs more : List Receive) → AddsTo qs more q → IsOwnReceive q → ArePostedApart more → (Has done q → ⊥)
    → SettlesAmong after ms all done qs old → SettlesAmong after ms all done more new

-- the receives of the call come, and those before it alone are done
abbrev pub EntersCall : List Receive → Batch → Batch → Type 0
EntersCall call old new = (after : After) (ms : List Message) (qs more : List Receive) → AddsReceives qs more call → ArePostedApart more → Settles after ms qs old → SettlesAmong after ms more qs more new

-- one receive more of a call is done
abbrev pub SettlesPart : Receive → Option ℕ → Batch → Batch → Type 0
SettlesPart q offered old new = (after : After) (ms : List Message) (qs more call done : List Receive) → AddsReceives qs more call → Has call q → IsOfferedAt after ms qs more q offered → IsNextPart qs call done q
    → SettlesAmong after ms more done more old → SettlesAmong after ms more (q ∷ done) more new

-- the receives of the call that are of any tag, or those of a tag, are done
abbrev pub SettlesKind : Bool → List Receive → List (Option ℕ) → Batch → Batch → Type 0
SettlesKind any_tag call offered old new = (after : After) (ms : List Message) (qs more done : List Receive) → AddsReceives qs more call → AllZip (IsOfferedAt after ms qs more) call offered → IsNextKind any_tag qs call done
    → SettlesAmong after ms more done more old → SettlesAmong after ms more (with_kind any_tag call done) more new

-- it stands for the receives of a rank more, behind the ranks before it
abbrev pub SettlesRank : After → List Receive → Batch → Batch → Type 0
SettlesRank after own old new = (ms : List Message) (before : List Receive) → IsPosting before [] own → ArePostedApart (between before own [])
    → Settles after ms (between before [] []) old → Settles after ms (between before own []) new

-- the pair of the message at the place comes behind the others, if it is in one
abbrev pub PutsPairAt : After → Batch → ℕ → Message → List Pair → List Pair → Type 0
PutsPairAt after b place m old new = (ms : List Message) (qs : List Receive) → Settles after ms qs b → slice_get ms place ≡ Some m → new ≡ with_pair after ms qs m old

-- the message at the place comes behind the other postponed ones, if it is postponed
abbrev pub PostponesAt : After → Batch → ℕ → Message → List OpName → List OpName → Type 0
PostponesAt after b place m old new = (ms : List Message) (qs : List Receive) → Settles after ms qs b → slice_get ms place ≡ Some m → new ≡ with_postponed after ms qs m old

-- the table of all that the pairing has seen
abbrev pub IsTableOf : After → Batch → Table → Type 0
IsTableOf after b table = (ms : List Message) (qs : List Receive) → Settles after ms qs b → table ≡ table_with after ms qs
