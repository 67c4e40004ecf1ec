-- Why pairs may be relied on: no further trace, and no choice that MPI leaves open, takes one back.
use Rattle.std.specs.Prelude.{◌≡◌, Bool, true, false, List}
use Rattle.std.specs.List.{AllZip}
use Rattle.mpi_model.specs.declared.event.OpName.{OpName}
use Rattle.mpi_model.specs.declared.message.Message.{Message}
use Rattle.mpi_model.specs.declared.message.Receive.{Receive}
use Rattle.mpi_model.specs.Fit.{fits}
use Rattle.mpi_model.specs.Trusts.{is_doubtful, is_open}
use Rattle.trace_ops.specs.Ops.{Ops, AreOwn, Grows, SameSend, StaysCertain, TellsMore}
use Rattle.trace_ops.specs.Order.{Has}
use Rattle.trace_pair.specs.After.{comes_after}
use Rattle.trace_pair.specs.Matching.{Continues, IsCoupledBy, IsLegal}
use Rattle.trace_pair.specs.Pairing.{After, Paired}
use Rattle.trace_pair.specs.Places.{sent_together, posted_together}
use Rattle.trace_pair.specs.Table.{sends_of, receives_of, pair_of}
use Rattle.trace_pair.specs.declared.pair.Pair.{Pair}

-- The couples are a legal matching of these ops.
abbrev pub IsLegalFor : List Ops → (OpName → OpName → Bool) → Type 0
IsLegalFor held couple = IsLegal (comes_after held) (sends_of held) (receives_of held) (λ m q. couple m.name q.name ≡ true)

-- Each pair is a couple of every legal matching of every continuation, however open receives are told there. In a
-- continuation no later Cancel names what is sure.
abbrev pub AreCertain : List Ops → List Pair → Type 0
AreCertain held pairs = (more : List Ops) (couple : OpName → OpName → Bool) → AreOwn 0 more → AllZip Grows held more → AllZip StaysCertain held more → IsLegalFor more couple
    → (p : Pair) → Has pairs p → couple p.message p.receive ≡ true

-- The same of the rules: each pair is a couple of every legal matching of every continuation.
abbrev pub PairsAreCertain : After → List Message → List Receive → Type 0
PairsAreCertain after ms qs = (more_after : After) (more_ms : List Message) (more_qs : List Receive) (couple : OpName → OpName → Bool)
    → Continues after ms qs more_after more_ms more_qs → IsLegal more_after more_ms more_qs (IsCoupledBy couple)
    → (m : Message) (q : Receive) → Has ms m → Has qs q → Paired after ms qs m q → couple m.name q.name ≡ true

-- A message that comes after a receive still does so where more is told.
abbrev pub StaysAfter : List Ops → List Ops → Type 0
StaysAfter held more = (m n : Message) (q r : Receive) → Has (sends_of held) m → SameSend m n → Has (receives_of held) q → TellsMore q r
    → comes_after held m q ≡ true → comes_after more n r ≡ true

-- A message that comes after a receive where more is told did so before, unless an outcome completed the receive
-- meanwhile.
abbrev pub WasAfter : List Ops → List Ops → Type 0
WasAfter held more = (m n : Message) (q r : Receive) → Has (sends_of held) m → SameSend m n → Has (receives_of held) q → TellsMore q r
    → r.ended ≡ q.ended → comes_after more n r ≡ true → comes_after held m q ≡ true

-- No receive is open, no message doubtful, and no two parts of one call fit one receive or message.
pub record AreAllSettled (held : List Ops) : Type 0 where
  pub none_open : (q : Receive) → Has (receives_of held) q → is_open q ≡ false
  pub none_doubtful : (m : Message) → Has (sends_of held) m → is_doubtful m.trust ≡ false
  pub one_part_sent : (m n : Message) (q : Receive) → Has (sends_of held) m → Has (sends_of held) n → Has (receives_of held) q → sent_together n m ≡ true → fits m q ≡ true → fits n q ≡ true → ⊥
  pub one_part_posted : (m : Message) (q r : Receive) → Has (sends_of held) m → Has (receives_of held) q → Has (receives_of held) r → posted_together r q ≡ true → fits m q ≡ true → fits m r ≡ true → ⊥

-- No message of a pair comes after its receive.
abbrev pub AreNoneAfter : List Ops → List Pair → Type 0
AreNoneAfter held pairs = (m : Message) (q : Receive) → Has (sends_of held) m → Has (receives_of held) q → Has pairs (pair_of m q) → comes_after held m q ≡ false

-- The pairs are a legal matching.
abbrev pub AreLegal : List Ops → List Pair → Type 0
AreLegal held pairs = IsLegal (comes_after held) (sends_of held) (receives_of held) (λ m q. Has pairs (pair_of m q))

-- The pairs are a legal matching, where all is settled and no message of a pair comes after its receive.
abbrev pub AreLegalIfSettled : List Ops → List Pair → Type 0
AreLegalIfSettled held pairs = AreAllSettled held → AreNoneAfter held pairs → AreLegal held pairs

-- Every legal matching is within the pairs.
abbrev pub AreTheOnlyLegal : List Ops → List Pair → Type 0
AreTheOnlyLegal held pairs = (couple : OpName → OpName → Bool) → IsLegalFor held couple
    → (m : Message) (q : Receive) → Has (sends_of held) m → Has (receives_of held) q → couple m.name q.name ≡ true → Has pairs (pair_of m q)
