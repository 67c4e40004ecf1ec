-- A rank's last message or receive, alone of its call, goes from the end of it.
use Rattle.std.proofs.Common.{subst, ◌≡◌, true, false, ◌⊎◌, List, [], ◌∷◌, inl, inr, ⊎_elim, sym, ap}
use Rattle.mpi_model.specs.declared.message.Message.{Message}
use Rattle.mpi_model.specs.declared.message.Receive.{Receive}
use Rattle.mpi_model.specs.Trusts.{is_open, is_settled}
use Rattle.trace_ops.specs.Order.{Has}
use Rattle.trace_pair.specs.Calls.{is_live, AddsMessage, AddsReceives}
use Rattle.trace_pair.specs.Indexed.{AreSets, IsIndexed, couple_of}
use Rattle.trace_pair.specs.Pairing.{After, paired, Paired}
use Rattle.trace_pair.specs.Sets.{AddsTo, DropsFrom}
use Rattle.trace_pair.specs.declared.pair.Couple.{Couple}
use Rattle.trace_pair.proofs.Certain.{the_one_receive, the_one_message}
use Rattle.trace_pair.proofs.Fitting.{false_apart, live_message, settled_from, settled_not_open}
use Rattle.trace_pair.proofs.Holding.{same_sets, receive_goes, message_goes}
use Rattle.trace_pair.proofs.Obeyed.{any_or_none, pair_obeys}
use Rattle.trace_pair.proofs.Singles.{absent_posted, absent_sent, one_posted, one_sent}
use Rattle.trace_pair.proofs.Steps.{receive-keeps, receive-adds_none, message-keeps, message-adds_none}

module _ (after : After) (ms : List Message) (less qs : List Receive) (q : Receive) (last : AddsReceives less qs (q ∷ []))
    (waiting : List Message) (free opened : List Receive) (couples : List Couple) (held : IsIndexed after ms qs waiting free opened couples) where
  absent : Has less q → ⊥
  absent = absent_posted less qs q last

  adds : AddsTo less qs q
  adds = one_posted less qs q last

  -- without it the others are paired as they were
  gone : (w : List Message) (f o : List Receive) (c : List Couple) → AreSets (Paired after ms qs) ms less w f o c → IsIndexed after ms less w f o c
  gone w f o c left = same_sets (Paired after ms qs) ms less w f o c left (Paired after ms less)
      (λ m r i j h. receive-adds_none after ms less qs (q ∷ []) last m r i j h) (λ m r i j h. receive-keeps after ms less qs (q ∷ []) last m r i j h)

  settled_by : (m : Message) → Paired after ms qs m q → is_settled q ≡ true
  settled_by m h = let o = pair_obeys after ms qs m q h in settled_from q o.told o.sure_receive

  module _ (never : (m : Message) → Has ms m → Paired after ms qs m q → ⊥) where
    alone : (frees opens : List Receive)
        → ((r : Receive) → Has frees r → Has free r) → ((r : Receive) → Has free r → Has frees r ⊎ (r ≡ q)) → (Has frees q → ⊥)
        → ((r : Receive) → Has opens r → Has opened r) → ((r : Receive) → Has opened r → Has opens r ⊎ (r ≡ q)) → (Has opens q → ⊥)
        → AreSets (Paired after ms qs) ms less waiting frees opens couples
    alone frees opens was_free keeps_free no_free was_open keeps_open no_open =
        receive_goes (Paired after ms qs) ms less qs q adds absent waiting free opened couples held waiting frees opens couples
        (λ n i. let v = held.waits n i in (v.0, v.1, λ r j h. v.2 r (adds.keeps r j) h))
        (λ n i l u. held.waits_all n i l (λ r j h. ⊎_elim (λ (k : Has less r). u r k h) (λ (e : r ≡ q). never n i (subst (λ (x : Receive). Paired after ms qs n x) e h)) (adds.cases r j)))
        was_free keeps_free no_free was_open keeps_open no_open
        (λ c i. i) (λ c i. inl i) (λ c i e. let v = held.coupled c i in never c.message v.0 (subst (λ (x : Receive). Paired after ms qs c.message x) e v.2))

  pub pop_receive_open : is_open q ≡ true → (opens : List Receive) → DropsFrom opened opens q → IsIndexed after ms less waiting free opens couples
  pop_receive_open is opens d =
      gone waiting free opens couples
      (alone (λ m i h. settled_not_open q (settled_by m h) is) free opens
      (λ r i. i) (λ r i. inl i) (λ i. settled_not_open q (held.frees q i).1 is) d.was d.keeps d.dropped)

  pub pop_receive_free : is_open q ≡ false → ((m : Message) → Has couples (couple_of m q) → ⊥) → (frees : List Receive) → DropsFrom free frees q → IsIndexed after ms less waiting frees opened couples
  pop_receive_free not none frees d =
      gone waiting frees opened couples
      (alone (λ m i h. none m (held.coupled_all m q i adds.added h)) frees opened
      d.was d.keeps d.dropped (λ r i. i) (λ r i. inl i) (λ i. false_apart (is_open q) not (held.opens q i).1))

  pub pop_receive_coupled : (m : Message) → Has couples (couple_of m q) → (waits : List Message) (pairs : List Couple) → AddsTo waiting waits m → DropsFrom couples pairs (couple_of m q) → IsIndexed after ms less waits free opened pairs
  pop_receive_coupled m ic waits pairs w d =
      let p = held.coupled (couple_of m q) ic in
      let only : (n : Message) → Has ms n → Paired after ms qs n q → n ≡ m = λ n i h. the_one_message after ms qs held.messages_apart n m q i p.0 adds.added h p.2 in
      gone waits free opened pairs
      (receive_goes (Paired after ms qs) ms less qs q adds absent waiting free opened couples held waits free opened pairs
      (λ n i. ⊎_elim
      (λ (k : Has waiting n). let v = held.waits n k in (v.0, v.1, λ r j h. v.2 r (adds.keeps r j) h))
      (λ (e : n ≡ m). subst (λ (x : Message). Has ms x × (is_live x.trust ≡ true) × ((r : Receive) → Has less r → Paired after ms qs x r → ⊥)) (sym e) (
        p.0,
        live_message m q (pair_obeys after ms qs m q p.2).fit,
        λ r j h.
            absent (subst (λ (x : Receive). Has less x) (the_one_receive after ms qs held.receives_apart m r q p.0 (adds.keeps r j) adds.added h p.2) j),
      )) (w.cases n i))
      (λ n i l u. ⊎_elim
      (λ (v : (r : Receive) × Has qs r × Paired after ms qs n r).
      ⊎_elim (λ (k : Has less v.0). absurd (u v.0 k v.2))
      (λ (e : v.0 ≡ q). subst (λ (x : Message). Has waits x) (sym (only n i (subst (λ (x : Receive). Paired after ms qs n x) e v.2))) w.added) (adds.cases v.0 v.1))
      (λ (none : (r : Receive) → Has qs r → Paired after ms qs n r → ⊥). w.keeps n (held.waits_all n i l none))
      (any_or_none (paired after ms qs n) qs))
      (λ r i. i) (λ r i. inl i) (λ i. (held.frees q i).2 m p.0 p.2)
      (λ r i. i) (λ r i. inl i) (λ i. settled_not_open q (settled_by m p.2) (held.opens q i).1)
      d.was (λ c i. ⊎_elim (λ (k : Has pairs c). inl k) (λ (e : c ≡ couple_of m q). inr (ap (λ (x : Couple). x.receive) e)) (d.keeps c i))
      (λ c i e.
      let v = held.coupled c (d.was c i) in
      let f = only c.message v.0 (subst (λ (x : Receive). Paired after ms qs c.message x) e v.2) in
      d.dropped (subst (λ (x : Receive). Has pairs (couple_of m x)) e (subst (λ (x : Message). Has pairs (couple_of x c.receive)) f i))))

module _ (after : After) (less ms : List Message) (qs : List Receive) (m : Message) (last : AddsMessage less ms m)
    (waiting : List Message) (free opened : List Receive) (couples : List Couple) (held : IsIndexed after ms qs waiting free opened couples) where
  absent_message : Has less m → ⊥
  absent_message = absent_sent less ms m last

  adds_sent : AddsTo less ms m
  adds_sent = one_sent less ms m last

  -- without it the others are paired as they were
  sent_gone : (w : List Message) (f o : List Receive) (c : List Couple) → AreSets (Paired after ms qs) less qs w f o c → IsIndexed after less qs w f o c
  sent_gone w f o c left = same_sets (Paired after ms qs) less qs w f o c left (Paired after less qs)
      (λ n r i j h. message-adds_none after less ms qs m last n r i j h) (λ n r i j h. message-keeps after less ms qs m last n r i j h)

  pub pop_message_waiting : ((q : Receive) → Has couples (couple_of m q) → ⊥) → (waits : List Message) → DropsFrom waiting waits m → IsIndexed after less qs waits free opened couples
  pop_message_waiting none waits d =
      let never : (q : Receive) → Has qs q → Paired after ms qs m q → ⊥ = λ q j h. none q (held.coupled_all m q adds_sent.added j h) in
      sent_gone waits free opened couples
      (message_goes (Paired after ms qs) less ms qs m adds_sent absent_message waiting free opened couples held waits free couples
      d.was d.keeps d.dropped
      (λ r i. let v = held.frees r i in (v.0, v.1, λ n j h. v.2 n (adds_sent.keeps n j) h))
      (λ r i s u. held.frees_all r i s (λ n j h. ⊎_elim (λ (k : Has less n). u n k h) (λ (e : n ≡ m). never r i (subst (λ (x : Message). Paired after ms qs x r) e h)) (adds_sent.cases n j)))
      (λ c i. i) (λ c i. inl i) (λ c i e. let v = held.coupled c i in never c.receive v.1 (subst (λ (x : Message). Paired after ms qs x c.receive) e v.2)))

  pub pop_message_coupled : (q : Receive) → Has couples (couple_of m q) → (frees : List Receive) (pairs : List Couple) → AddsTo free frees q → DropsFrom couples pairs (couple_of m q) → IsIndexed after less qs waiting frees opened pairs
  pop_message_coupled q ic frees pairs f d =
      let p = held.coupled (couple_of m q) ic in
      let o = pair_obeys after ms qs m q p.2 in
      let only : (r : Receive) → Has qs r → Paired after ms qs m r → r ≡ q = λ r j h. the_one_receive after ms qs held.receives_apart m r q adds_sent.added j p.1 h p.2 in
      sent_gone waiting frees opened pairs
      (message_goes (Paired after ms qs) less ms qs m adds_sent absent_message waiting free opened couples held waiting frees pairs
      (λ n i. i) (λ n i. inl i) (λ i. (held.waits m i).2 q p.1 p.2)
      (λ r i. ⊎_elim
      (λ (k : Has free r). let v = held.frees r k in (v.0, v.1, λ n j h. v.2 n (adds_sent.keeps n j) h))
      (λ (e : r ≡ q). subst (λ (x : Receive). Has qs x × (is_settled x ≡ true) × ((n : Message) → Has less n → Paired after ms qs n x → ⊥)) (sym e) (
        p.1,
        settled_from q o.told o.sure_receive,
        λ n j h.
            absent_message (subst (λ (x : Message). Has less x) (the_one_message after ms qs held.messages_apart n m q (adds_sent.keeps n j) adds_sent.added p.1 h p.2) j),
      )) (f.cases r i))
      (λ r i s u. ⊎_elim
      (λ (v : (n : Message) × Has ms n × Paired after ms qs n r).
      ⊎_elim (λ (k : Has less v.0). absurd (u v.0 k v.2))
      (λ (e : v.0 ≡ m). subst (λ (x : Receive). Has frees x) (sym (only r i (subst (λ (x : Message). Paired after ms qs x r) e v.2))) f.added) (adds_sent.cases v.0 v.1))
      (λ (none : (n : Message) → Has ms n → Paired after ms qs n r → ⊥). f.keeps r (held.frees_all r i s none))
      (any_or_none (λ n. paired after ms qs n r) ms))
      d.was (λ c i. ⊎_elim (λ (k : Has pairs c). inl k) (λ (e : c ≡ couple_of m q). inr (ap (λ (x : Couple). x.message) e)) (d.keeps c i))
      (λ c i e.
      let v = held.coupled c (d.was c i) in
      let g = only c.receive v.1 (subst (λ (x : Message). Paired after ms qs x c.receive) e v.2) in
      d.dropped (subst (λ (x : Message). Has pairs (couple_of x q)) e (subst (λ (x : Receive). Has pairs (couple_of c.message x)) g i))))
