-- Which message is received by which receive: the five rules.
--
-- They follow from what MPI lets no implementation change: which receives a message fits (MPI 4.0, 3.2.3 and 3.2.4),
-- that neither messages of one sender nor receives of one rank overtake one another (MPI 4.0, 3.5), and that the parts
-- of one Startall start in any order (3.9). A message or receive that a Cancel names may take part in none of it, until
-- the run tells (MPI 4.0, 3.8.4).
use Rattle.std.specs.Prelude.{◌≡◌, ℕ, zero, suc, ◌+◌, Bool, true, false, ◌&&◌, ◌||◌, not, Option, is_some, List}
use Rattle.std.specs.List.{list_any, list_all, find}
use Rattle.mpi_model.specs.declared.message.Message.{Message}
use Rattle.mpi_model.specs.declared.message.Receive.{Receive}
use Rattle.mpi_model.specs.Fit.{fits}
use Rattle.mpi_model.specs.Trusts.{is_sure, is_open, is_settled}
use Rattle.trace_ops.specs.Order.{Has, sent_before, posted_before}
use Rattle.trace_pair.specs.Places.{sent_no_later, posted_no_later}

-- Which messages come after which receives: they were sent when the receive was completed, so it didn't take them.
abbrev pub After : Type 0
After = Message → Receive → Bool

-- Another open receive, of no later call, fits the message, and the message doesn't come after it: so it may have taken
-- it.
abbrev pub blocked : After → List Receive → Message → Receive → Bool
blocked after qs m q = list_any (λ u. is_open u && posted_no_later u q && fits m u && not (after m u)) qs

-- Each other message of the same sender, of no later call, that fits the receive is paired with a receive before it.
abbrev pub messages_gone : List Message → List Receive → (Message → Receive → Bool) → Message → Receive → Bool
messages_gone ms qs paired m q = list_all (λ n. not (sent_no_later n m && fits n q) || list_any (λ r. posted_before r q && paired n r) qs) ms

-- Each other settled receive, of no later call, that fits the message is paired with an earlier message.
abbrev pub receives_gone : List Message → List Receive → (Message → Receive → Bool) → Message → Receive → Bool
receives_gone ms qs paired m q = list_all (λ r. not (is_settled r && posted_no_later r q && fits m r) || list_any (λ n. sent_before n m && paired n r) ms) qs

-- The five rules, where `paired` says which couples of earlier calls are pairs. Another part of the same call counts as
-- an earlier one where it may stand in the way, and not where it would be out of the way:
-- 1. the receive's source is told, and both are sure;
-- 2. the message fits the receive;
-- 3. no other open receive of no later call fits the message, but for those that the message comes after;
-- 4. each other message of no later call that fits the receive is paired with an earlier receive;
-- 5. each other told and sure receive of no later call that fits the message is paired with an earlier message.
unfoldable pub obeys : After → List Message → List Receive → (Message → Receive → Bool) → Message → Receive → Bool
obeys after ms qs paired m q =
    is_settled q && is_sure m.trust && fits m q && not (blocked after qs m q) && messages_gone ms qs paired m q && receives_gone ms qs paired m q

-- the pairs whose call numbers add up to less than the bound
unfoldable pub paired_below : ℕ → After → List Message → List Receive → Message → Receive → Bool
paired_below zero after ms qs m q = false
paired_below (suc bound) after ms qs m q = obeys after ms qs (paired_below bound after ms qs) m q

-- The message and the receive are a pair: by recursion on the sum of their call numbers.
unfoldable pub paired : After → List Message → List Receive → Message → Receive → Bool
paired after ms qs m q = paired_below (suc (m.name.call + q.name.call)) after ms qs m q

-- the message and the receive are a pair of the rules
abbrev pub Paired : After → List Message → List Receive → Message → Receive → Type 0
Paired after ms qs m q = paired after ms qs m q ≡ true

-- The five rules as facts, where P says which couples of earlier calls are pairs.
pub record Obeys (after : After) (ms : List Message) (qs : List Receive) (P : Message → Receive → Type 0) (m : Message) (q : Receive) : Type 0 where
  pub told : is_some q.source ≡ true
  pub sure_receive : is_sure q.trust ≡ true
  pub sure_message : is_sure m.trust ≡ true
  pub fit : fits m q ≡ true
  pub no_open : (u : Receive) → Has qs u → is_open u ≡ true → posted_no_later u q ≡ true → fits m u ≡ true → after m u ≡ true
  pub messages : (n : Message) → Has ms n → sent_no_later n m ≡ true → fits n q ≡ true → (r : Receive) × Has qs r × (posted_before r q ≡ true) × P n r
  pub receives : (r : Receive) → Has qs r → is_settled r ≡ true → posted_no_later r q ≡ true → fits m r ≡ true → (n : Message) × Has ms n × (sent_before n m ≡ true) × P n r

-- the receive that takes the message
abbrev pub receive_of : After → List Message → List Receive → Message → Option Receive
receive_of after ms qs m = find (paired after ms qs m) qs

-- Each pair obeys the rules.
abbrev pub PairsObey : After → List Message → List Receive → Type 0
PairsObey after ms qs = (m : Message) (q : Receive) → Paired after ms qs m q → Obeys after ms qs (Paired after ms qs) m q

-- What obeys the rules is a pair.
abbrev pub WhatObeysIsPaired : After → List Message → List Receive → Type 0
WhatObeysIsPaired after ms qs = (m : Message) (q : Receive) → Obeys after ms qs (Paired after ms qs) m q → Paired after ms qs m q

-- Two relations say the same of all these messages and receives.
abbrev pub AgreeOn : List Message → List Receive → (Message → Receive → Bool) → (Message → Receive → Bool) → Type 0
AgreeOn ms qs one other = (m : Message) (q : Receive) → Has ms m → Has qs q → one m q ≡ other m q

-- No message is paired with two receives.
abbrev pub HaveOneReceive : After → List Message → List Receive → Type 0
HaveOneReceive after ms qs = (m : Message) (q r : Receive) → Has ms m → Has qs q → Has qs r → Paired after ms qs m q → Paired after ms qs m r → q ≡ r

-- No receive is paired with two messages.
abbrev pub HaveOneMessage : After → List Message → List Receive → Type 0
HaveOneMessage after ms qs = (m n : Message) (q : Receive) → Has ms m → Has ms n → Has qs q → Paired after ms qs m q → Paired after ms qs n q → m ≡ n
