-- A call of one part more at the end of its rank.
use Rattle.std.proofs.Common.{subst, ◌≡◌, true, false, ◌⊎◌, List, [], ◌∷◌, inl, inr, ⊎_elim, sym, refl}
use Rattle.mpi_model.specs.declared.message.Message.{Message}
use Rattle.mpi_model.specs.declared.message.Receive.{Receive}
use Rattle.mpi_model.specs.Trusts.{is_open, is_settled}
use Rattle.trace_ops.specs.Order.{Has}
use Rattle.trace_pair.specs.Calls.{is_live, AddsMessage, AddsReceives, AreApart, ArePostedApart}
use Rattle.trace_pair.specs.Indexed.{AreSets, AwaitReceives, Found, IsIndexed, OffersMessage, TakesMessage, couple_of}
use Rattle.trace_pair.specs.Pairing.{After, Paired}
use Rattle.trace_pair.specs.Sets.{AddsTo, DropsFrom}
use Rattle.trace_pair.specs.declared.pair.Couple.{Couple}
use Rattle.trace_pair.proofs.Certain.{the_one_receive}
use Rattle.trace_pair.proofs.Fitting.{settled_from, settled_not_open, sure_stands}
use Rattle.trace_pair.proofs.Holding.{same_sets, couple_found, receive_free, receive_open, receive_void, message_waits, message_void}
use Rattle.trace_pair.specs.Coupled.{IsNew}
use Rattle.trace_pair.proofs.Known.{new_couple}
use Rattle.trace_pair.proofs.ReceiveParts as receives
use Rattle.trace_pair.proofs.Singles.{absent_posted, absent_sent, one_posted, one_sent}
use Rattle.trace_pair.proofs.Steps.{receive-keeps, receive-adds_none, receive-taken, message-keeps, message-adds_none, message-taken, takes_message}

pub put_front : {X : Type 0} (xs : List X) (x : X) → AddsTo xs (x ∷ xs) x
put_front {X = X} xs x = record { keeps = λ y i. inr i; added = inl refl; cases = λ y i. ⊎_elim (λ (e : y ≡ x). inr e) (λ (k : Has xs y). inl k) i }

take_front : {X : Type 0} (xs : List X) (x : X) → (Has xs x → ⊥) → DropsFrom (x ∷ xs) xs x
take_front {X = X} xs x absent = record { keeps = λ y i. ⊎_elim (λ (e : y ≡ x). inr e) (λ (k : Has xs y). inl k) i; dropped = absent; was = λ y i. inr i }

module _ (after : After) (ms : List Message) (qs more : List Receive) (q : Receive) (adds : AddsReceives qs more (q ∷ [])) (posted_apart : ArePostedApart more)
    (waiting : List Message) (free opened : List Receive) (couples : List Couple) (held : IsIndexed after ms qs waiting free opened couples) where
  pub absent_receive : Has qs q → ⊥
  absent_receive = absent_posted qs more q adds

  one_more : AddsTo qs more q
  one_more = one_posted qs more q adds

  abbrev Old : Message → Receive → Type 0
  Old = Found after ms more (λ m r. Has qs r)

  before : AreSets Old ms qs waiting free opened couples
  before = same_sets (Paired after ms qs) ms qs waiting free opened couples held Old
      (λ m r i j h. (receive-keeps after ms qs more (q ∷ []) adds m r i j h, j)) (λ m r i j h. receive-adds_none after ms qs more (q ∷ []) adds m r i j h.0)

  -- the settled receive comes to the free ones
  pub awaits_free : is_settled q ≡ true → (frees : List Receive) → AddsTo free frees q → AwaitReceives after ms qs more waiting frees opened couples
  awaits_free s frees a = receive_free Old ms qs waiting free opened couples before more q one_more (adds.own q (inl refl)) posted_apart (λ m i h. absent_receive h.1) frees s (settled_not_open q s) a

  -- where the receive is in no pair, all pairs are found
  all_found : (w : List Message) (f o : List Receive) (p : List Couple) → AreSets Old ms more w f o p → ((m : Message) → Has ms m → Paired after ms more m q → ⊥) → IsIndexed after ms more w f o p
  all_found w f o p h none = same_sets Old ms more w f o p h (Paired after ms more) (λ m r i j g. g.0)
      (λ m r i j g. (g, ⊎_elim (λ (k : Has qs r). k) (λ (e : r ≡ q). absurd (none m i (subst (λ (x : Receive). Paired after ms more m x) e g))) (one_more.cases r j)))

  pub push_receive_free : is_settled q ≡ true → ((m : Message) → Has ms m → Paired after ms more m q → ⊥) → (frees : List Receive) → AddsTo free frees q → IsIndexed after ms more waiting frees opened couples
  push_receive_free s none frees a = all_found waiting frees opened couples (awaits_free s frees a) none

  pub new_receive : is_settled q ≡ true → (m : Message) → OffersMessage after ms qs more q m → IsNew couples (couple_of m q)
  new_receive s m offer =
      new_couple Old ms more waiting (q ∷ free) opened couples (awaits_free s (q ∷ free) (put_front free q)) m q offer.member one_more.added s offer.fit
      (λ r j h. offer.waits r h.1 (receive-adds_none after ms qs more (q ∷ []) adds m r offer.member h.1 h.0)) (λ n j h. absent_receive h.1)

  pub push_receive_taken : is_settled q ≡ true → (m : Message) → OffersMessage after ms qs more q m → Paired after ms more m q → (waits : List Message) (pairs : List Couple) → DropsFrom waiting waits m → AddsTo couples pairs (couple_of m q)
      → IsIndexed after ms more waits free opened pairs
  push_receive_taken s m offer h waits pairs w p =
      let R = Found after ms more (λ n r. Has qs r ⊎ (r ≡ q)) in
      same_sets R ms more waits free opened pairs
      (receives.settles_taken after ms qs more (q ∷ []) adds held.messages_apart posted_apart q (inl refl) s m offer (λ n r. Has qs r) (λ n r k. k) waiting (q ∷ free) opened couples
      (awaits_free s (q ∷ free) (put_front free q)) h waits free pairs w (take_front free q (λ i. absent_receive (held.frees q i).0)) p)
      (Paired after ms more) (λ n r i j g. g.0) (λ n r i j g. (g, one_more.cases r j))

  pub push_receive_open : is_open q ≡ true → (opens : List Receive) → AddsTo opened opens q → IsIndexed after ms more waiting free opens couples
  push_receive_open is opens a =
      all_found waiting free opens couples
      (receive_open Old ms qs waiting free opened couples before more q one_more (adds.own q (inl refl)) posted_apart (λ m i h. absent_receive h.1) opens is (λ s. settled_not_open q s is) a)
      (λ m i h. let t = receive-taken after ms qs more (q ∷ []) adds m q i (inl refl) h in settled_not_open q (settled_from q t.told t.sure_receive) is)

  pub push_receive_void : is_open q ≡ false → is_settled q ≡ false → IsIndexed after ms more waiting free opened couples
  push_receive_void not_open not_settled =
      all_found waiting free opened couples
      (receive_void Old ms qs waiting free opened couples before more q one_more (adds.own q (inl refl)) posted_apart (λ m i h. absent_receive h.1) (λ o. cc) (λ s. cc))
      (λ m i h. let t = receive-taken after ms qs more (q ∷ []) adds m q i (inl refl) h in let s = settled_from q t.told t.sure_receive in absurd (cc))

module _ (after : After) (ms more : List Message) (qs : List Receive) (m : Message) (adds : AddsMessage ms more m) (apart : AreApart more)
    (waiting : List Message) (free opened : List Receive) (couples : List Couple) (held : IsIndexed after ms qs waiting free opened couples) where
  abbrev Sent : Message → Receive → Type 0
  Sent = Found after more qs (λ n r. Has ms n)

  sent_before_it : AreSets Sent ms qs waiting free opened couples
  sent_before_it = same_sets (Paired after ms qs) ms qs waiting free opened couples held Sent
      (λ n r i j h. (message-keeps after ms more qs m adds n r i j h, i)) (λ n r i j h. message-adds_none after ms more qs m adds n r i j h.0)

  -- the message comes to those that wait
  awaits_message : is_live m.trust ≡ true → (waits : List Message) → AddsTo waiting waits m → AreSets Sent more qs waits free opened couples
  awaits_message l waits a = message_waits Sent ms qs waiting free opened couples sent_before_it more m (one_sent ms more m adds) adds.own apart (λ q i h. absent_sent ms more m adds h.1) waits l a

  -- where it is in no pair, all pairs are found
  all_sent_found : (w : List Message) → AreSets Sent more qs w free opened couples → ((q : Receive) → Has qs q → TakesMessage after ms qs m q → ⊥) → IsIndexed after more qs w free opened couples
  all_sent_found w h none = same_sets Sent more qs w free opened couples h (Paired after more qs) (λ n r i j g. g.0)
      (λ n r i j g. (
        g,
        ⊎_elim (λ (k : Has ms n). k)
            (λ (e : n ≡ m). absurd (none r j (message-taken after ms more qs m adds r j (subst (λ (x : Message). Paired after more qs x r) e g)))) (adds.cases n i),
      ))

  pub push_message_waits : is_live m.trust ≡ true → ((q : Receive) → Has qs q → TakesMessage after ms qs m q → ⊥) → (waits : List Message) → AddsTo waiting waits m → IsIndexed after more qs waits free opened couples
  push_message_waits l none waits a = all_sent_found waits (awaits_message l waits a) none

  pub push_message_void : (is_live m.trust ≡ true → ⊥) → IsIndexed after more qs waiting free opened couples
  push_message_void not =
      all_sent_found waiting (message_void Sent ms qs waiting free opened couples sent_before_it more m (one_sent ms more m adds) adds.own apart (λ q i h. absent_sent ms more m adds h.1) not)
      (λ q i t. not (sure_stands m.trust t.sure_message))

  module _ (q : Receive) (i : Has qs q) (takes : TakesMessage after ms qs m q) where
    came : AreSets Sent more qs (m ∷ waiting) free opened couples
    came = awaits_message (sure_stands m.trust takes.sure_message) (m ∷ waiting) (put_front waiting m)

    pub new_message : IsNew couples (couple_of m q)
    new_message =
        new_couple Sent more qs (m ∷ waiting) free opened couples came m q adds.new i (settled_from q takes.told takes.sure_receive) takes.fit
        (λ r j h. absent_sent ms more m adds h.1) (λ n j h. takes.is_free n h.1 (message-adds_none after ms more qs m adds n q h.1 i h.0))

    -- the two are a couple, and the message is in no other
    pub push_message_taken : (frees : List Receive) (pairs : List Couple) → DropsFrom free frees q → AddsTo couples pairs (couple_of m q) → IsIndexed after more qs waiting frees opened pairs
    push_message_taken frees pairs f p =
        let paired = takes_message after ms more qs m adds q i held.receives_apart takes in
        same_sets (λ n r. Sent n r ⊎ ((n ≡ m) × (r ≡ q))) more qs waiting frees opened pairs
        (couple_found Sent more qs (m ∷ waiting) free opened couples came m q adds.new i waiting frees pairs (take_front waiting m (λ k. absent_sent ms more m adds (held.waits m k).0)) f p)
        (Paired after more qs)
        (λ n r k j x. ⊎_elim (λ (y : Sent n r). y.0)
        (λ (e : (n ≡ m) × (r ≡ q)). subst (λ (z : Message). Paired after more qs z r) (sym e.0) (subst (λ (z : Receive). Paired after more qs m z) (sym e.1) paired)) x)
        (λ n r k j h. ⊎_elim (λ (l : Has ms n). inl (h, l))
        (λ (e : n ≡ m). inr (e, the_one_receive after more qs held.receives_apart m r q adds.new j i (subst (λ (z : Message). Paired after more qs z r) e h) paired)) (adds.cases n k))
