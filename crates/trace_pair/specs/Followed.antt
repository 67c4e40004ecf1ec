-- The state of an index stands for these calls.
use Rattle.std.specs.Prelude.{◌≡◌, ◌+◌, ◌++◌, ℕ, Bool, Option, List, [], ◌∷◌, take}
use Rattle.std.specs.List.{filter_map}
use Rattle.std.specs.Option.{option_map}
use Rattle.mpi_model.specs.declared.event.OpName.{OpName}
use Rattle.mpi_model.specs.declared.message.Message.{Message}
use Rattle.mpi_model.specs.declared.message.Receive.{Receive}
use Rattle.trace_ops.specs.Ops.{Ops}
use Rattle.trace_ops.specs.Order.{Has}
use Rattle.trace_pair.specs.After.{comes_after}
use Rattle.trace_pair.specs.Calls.{AddsMessage, AddsReceives, between, AreSentAlone, ArePostedAlone, IsSequence, IsPostingByCall}
use Rattle.trace_pair.specs.Indexed.{IsFree, IsIndexed, OffersMessage, TakesMessage}
use Rattle.trace_pair.specs.Pairing.{After, Paired, receive_of}
use Rattle.trace_pair.specs.Parts.{all_begun, begun}
use Rattle.trace_pair.specs.Table.{fits_open, pair_of, postponed_name, sends_of, receives_of, with_pair, with_postponed}
use Rattle.trace_pair.specs.declared.pair.Pair.{Pair}
use Rattle.trace_pair.specs.declared.follow.Fronts.{Fronts}
use Rattle.trace_pair.specs.declared.matched.Matched.{Matched}

-- What is kept is the index of these messages and receives, each of a call of one part.
pub record Indexes (after : After) (ms : List Message) (qs : List Receive) (s : Matched) : Type 0 where
  pub sets : IsIndexed after ms qs s.waiting s.free s.opened s.couples
  pub sent_alone : AreSentAlone ms
  pub posted_alone : ArePostedAlone qs

-- whatever the state stood for, it still does
abbrev pub KeepsCalls : Matched → Matched → Type 0
KeepsCalls old new = (after : After) (ms : List Message) (qs : List Receive) → Indexes after ms qs old → Indexes after ms qs new

-- the state stands for a message more, behind those of its sender
abbrev pub GainsMessage : After → Message → Matched → Matched → Type 0
GainsMessage after m old new = (ms more : List Message) (qs : List Receive) → AddsMessage ms more m → Indexes after ms qs old → Indexes after more qs new

-- the state stands for a receive more, behind those of its rank
abbrev pub GainsReceive : After → Receive → Matched → Matched → Type 0
GainsReceive after q old new = (ms : List Message) (qs more : List Receive) → AddsReceives qs more (q ∷ []) → Indexes after ms qs old → Indexes after ms more new

-- the last message of a sender is gone from what the state stands for
abbrev pub LosesMessage : Message → Matched → Matched → Type 0
LosesMessage m old new = (after : After) (ms more : List Message) (qs : List Receive) → AddsMessage ms more m → Indexes after more qs old → Indexes after ms qs new

-- the last receive of a rank is gone from what the state stands for
abbrev pub LosesReceive : Receive → Matched → Matched → Type 0
LosesReceive q old new = (after : After) (ms : List Message) (qs more : List Receive) → AddsReceives qs more (q ∷ []) → Indexes after ms more old → Indexes after ms qs new

-- the state stands for the calls of all ranks, where so much is known of what comes after what
abbrev pub FollowsBy : After → List Ops → Matched → Type 0
FollowsBy after held state = Indexes after (sends_of held) (receives_of held) state

-- the state stands for the calls of all ranks
abbrev pub Follows : List Ops → Matched → Type 0
Follows held state = FollowsBy (comes_after held) held state

-- the state goes back to the first of a rank's messages and receives, wherever they stand among those of the others
abbrev pub Drops : Ops → Fronts → Matched → Matched → Type 0
Drops was f old new = (after : After) (before behind : List Message) (above below : List Receive)
    → IsSequence before behind was.sends → IsPostingByCall above below was.receives
    → Indexes after (between before was.sends behind) (between above was.receives below) old
    → Indexes after (between before (take f.sends was.sends) behind) (between above (take f.receives was.receives) below) new

-- the state goes on from the first of them to all
abbrev pub Adds : After → Ops → Fronts → Matched → Matched → Type 0
Adds after own f old new = (before behind : List Message) (above below : List Receive)
    → IsSequence before behind own.sends → IsPostingByCall above below own.receives
    → Indexes after (between before (take f.sends own.sends) behind) (between above (take f.receives own.receives) below) old
    → Indexes after (between before own.sends behind) (between above own.receives below) new

-- the state follows the calls of a rank from the old ones to the new ones, wherever they stand among those of the
-- others
abbrev pub Moves : After → Ops → Ops → Matched → Matched → Type 0
Moves after o n old new = (before behind : List Message) (above below : List Receive)
    → IsSequence before behind o.sends → IsSequence before behind n.sends
    → IsPostingByCall above below o.receives → IsPostingByCall above below n.receives
    → Indexes after (between before o.sends behind) (between above o.receives below) old
    → Indexes after (between before n.sends behind) (between above n.receives below) new

-- the messages of a rank behind the first so many are gone, wherever they stand among those of the others
abbrev pub DropsMessages : List Message → ℕ → Matched → Matched → Type 0
DropsMessages held keep old new = (after : After) (before behind : List Message) (qs : List Receive) → IsSequence before behind held
    → Indexes after (between before held behind) qs old → Indexes after (between before (take keep held) behind) qs new

-- and they come
abbrev pub AddsMessages : After → List Message → ℕ → Matched → Matched → Type 0
AddsMessages after held keep old new = (before behind : List Message) (qs : List Receive) → IsSequence before behind held
    → Indexes after (between before (take keep held) behind) qs old → Indexes after (between before held behind) qs new

-- the receives of a rank behind the first so many are gone, wherever they stand among those of the others
abbrev pub DropsPosted : List Receive → ℕ → Matched → Matched → Type 0
DropsPosted held keep old new = (after : After) (before behind : List Receive) (ms : List Message) → IsPostingByCall before behind held
    → Indexes after ms (between before held behind) old → Indexes after ms (between before (take keep held) behind) new

-- and they come
abbrev pub AddsPosted : After → List Receive → ℕ → Matched → Matched → Type 0
AddsPosted after held keep old new = (before behind : List Receive) (ms : List Message) → IsPostingByCall before behind held
    → Indexes after ms (between before (take keep held) behind) old → Indexes after ms (between before held behind) new

-- what takes the message, or None, for all that the state stands for
abbrev pub IsTakerIn : Matched → Message → Option Receive → Type 0
IsTakerIn s m taker = (after : After) (ms : List Message) (qs : List Receive) → Indexes after ms qs s → Has ms m → taker ≡ receive_of after ms qs m

-- the message that the receive takes
abbrev pub IsMessageIn : Matched → Receive → Message → Type 0
IsMessageIn s q m = (after : After) (ms : List Message) (qs : List Receive) → Indexes after ms qs s → Has qs q → Has ms m × Paired after ms qs m q

-- the receive takes none
abbrev pub IsFreeIn : Matched → Receive → Type 0
IsFreeIn s q = (after : After) (ms : List Message) (qs : List Receive) → Indexes after ms qs s → Has qs q → IsFree after ms qs q

-- whether an open receive fits the message, which doesn't come after it
abbrev pub TellsOpenFitIn : After → Matched → Message → Bool → Type 0
TellsOpenFitIn after s m told = (ms : List Message) (qs : List Receive) → Indexes after ms qs s → told ≡ fits_open after qs m

-- the receive takes a new message
abbrev pub IsTakerFor : After → Matched → Message → Receive → Type 0
IsTakerFor after s m q = (ms : List Message) (qs : List Receive) → Indexes after ms qs s → Has qs q × TakesMessage after ms qs m q

-- no receive does
abbrev pub HasNoTakerFor : After → Matched → Message → Type 0
HasNoTakerFor after s m = (ms : List Message) (qs : List Receive) → Indexes after ms qs s → (q : Receive) → Has qs q → TakesMessage after ms qs m q → ⊥

-- a new receive takes the message
abbrev pub IsMessageFor : After → Matched → Receive → Message → Type 0
IsMessageFor after s q m = (ms : List Message) (qs more : List Receive) → AddsReceives qs more (q ∷ []) → Indexes after ms qs s → OffersMessage after ms qs more q m × Paired after ms more m q

-- it takes none
abbrev pub HasNoMessageFor : After → Matched → Receive → Type 0
HasNoMessageFor after s q = (ms : List Message) (qs more : List Receive) → AddsReceives qs more (q ∷ []) → Indexes after ms qs s → (m : Message) → Has ms m → Paired after ms more m q → ⊥

-- the pair of the message comes behind the others, if it is in one
abbrev pub PutsPair : After → Matched → Message → List Pair → List Pair → Type 0
PutsPair after s m old new = (ms : List Message) (qs : List Receive) → Indexes after ms qs s → Has ms m → new ≡ with_pair after ms qs m old

-- the message comes behind the other postponed ones, if it is postponed
abbrev pub Postpones : After → Matched → Message → List OpName → List OpName → Type 0
Postpones after s m old new = (ms : List Message) (qs : List Receive) → Indexes after ms qs s → Has ms m → new ≡ with_postponed after ms qs m old

-- the pairs of these messages come behind the others
abbrev pub PutsPairs : After → Matched → List Message → List Pair → List Pair → Type 0
PutsPairs after s some old new = (ms : List Message) (qs : List Receive) → Indexes after ms qs s → ((m : Message) → Has some m → Has ms m)
    → new ≡ old ++ filter_map (λ m. option_map (pair_of m) (receive_of after ms qs m)) some

-- those of these messages that are postponed come behind the others
abbrev pub PostponesAll : After → Matched → List Message → List OpName → List OpName → Type 0
PostponesAll after s some old new = (ms : List Message) (qs : List Receive) → Indexes after ms qs s → ((m : Message) → Has some m → Has ms m) → new ≡ old ++ filter_map (postponed_name after ms qs) some

-- the state stands for the first parts of the calls of all ranks
abbrev pub FollowsParts : List Ops → ℕ → ℕ → Matched → Type 0
FollowsParts held parts done state = FollowsBy (comes_after held) (all_begun parts done held) state

-- the state follows one part more of a rank's calls
abbrev pub BeginsPart : After → Ops → ℕ → ℕ → Matched → Matched → Type 0
BeginsPart after own parts done old new = Moves after (begun parts done own) (begun parts (done + 1) own) old new
