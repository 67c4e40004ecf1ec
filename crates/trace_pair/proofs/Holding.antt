-- The four sets of an index, as what is paired becomes more, and as calls come to them or go from them.
use Rattle.std.proofs.Common.{subst, ◌≡◌, true, ◌⊎◌, List, inl, inr, ⊎_elim, sym, refl}
use Rattle.mpi_model.specs.declared.message.Message.{Message}
use Rattle.mpi_model.specs.declared.message.Receive.{Receive}
use Rattle.mpi_model.specs.Trusts.{is_open, is_settled}
use Rattle.trace_ops.specs.Order.{Has}
use Rattle.trace_pair.specs.Calls.{is_live, IsOwnMessage, IsOwnReceive, AreApart, ArePostedApart}
use Rattle.trace_pair.specs.Indexed.{AreSets, couple_of}
use Rattle.trace_pair.specs.Sets.{AddsTo, DropsFrom, IsSameSet}
use Rattle.trace_pair.specs.declared.pair.Couple.{Couple}

module _ (P : Message → Receive → Type 0) (ms : List Message) (qs : List Receive) (waiting : List Message) (free opened : List Receive) (couples : List Couple) (held : AreSets P ms qs waiting free opened couples) where
  -- the same is paired by another relation
  pub same_sets : (Q : Message → Receive → Type 0) → ((m : Message) (q : Receive) → Has ms m → Has qs q → P m q → Q m q) → ((m : Message) (q : Receive) → Has ms m → Has qs q → Q m q → P m q) → AreSets Q ms qs waiting free opened couples
  same_sets Q to from = record {
    senders = held.senders;
    receivers = held.receivers;
    messages_apart = held.messages_apart;
    receives_apart = held.receives_apart;
    waits = λ m i. let v = held.waits m i in (v.0, v.1, λ q j h. v.2 q j (from m q v.0 j h));
    waits_all = λ m i l u. held.waits_all m i l (λ q j h. u q j (to m q i j h));
    frees = λ q i. let v = held.frees q i in (v.0, v.1, λ m j h. v.2 m j (from m q j v.0 h));
    frees_all = λ q i s u. held.frees_all q i s (λ m j h. u m j (to m q j i h));
    opens = held.opens;
    opens_all = held.opens_all;
    coupled = λ c i. let v = held.coupled c i in (v.0, v.1, to c.message c.receive v.0 v.1 v.2);
    coupled_all = λ m q i j h. held.coupled_all m q i j (from m q i j h);
  }

  -- the same elements stand in other lists
  pub same_lists : (waits : List Message) (frees : List Receive) (pairs : List Couple) → IsSameSet waiting waits → IsSameSet free frees → IsSameSet couples pairs → AreSets P ms qs waits frees opened pairs
  same_lists waits frees pairs w f c = record {
    senders = held.senders;
    receivers = held.receivers;
    messages_apart = held.messages_apart;
    receives_apart = held.receives_apart;
    waits = λ m i. held.waits m (w.was m i);
    waits_all = λ m i l u. w.keeps m (held.waits_all m i l u);
    frees = λ q i. held.frees q (f.was q i);
    frees_all = λ q i s u. f.keeps q (held.frees_all q i s u);
    opens = held.opens;
    opens_all = held.opens_all;
    coupled = λ d i. held.coupled d (c.was d i);
    coupled_all = λ m q i j h. c.keeps (couple_of m q) (held.coupled_all m q i j h);
  }

  -- the same receives stand in another list
  pub same_receives : (rs : List Receive) → IsSameSet qs rs → AreSets P ms rs waiting free opened couples
  same_receives rs s = record {
    senders = held.senders;
    receivers = λ q i. held.receivers q (s.was q i);
    messages_apart = held.messages_apart;
    receives_apart = λ q r i j e. held.receives_apart q r (s.was q i) (s.was r j) e;
    waits = λ m i. let v = held.waits m i in (v.0, v.1, λ q j h. v.2 q (s.was q j) h);
    waits_all = λ m i l u. held.waits_all m i l (λ q j h. u q (s.keeps q j) h);
    frees = λ q i. let v = held.frees q i in (s.keeps q v.0, v.1, v.2);
    frees_all = λ q i t u. held.frees_all q (s.was q i) t u;
    opens = λ q i. let v = held.opens q i in (s.keeps q v.0, v.1);
    opens_all = λ q i t. held.opens_all q (s.was q i) t;
    coupled = λ c i. let v = held.coupled c i in (v.0, s.keeps c.receive v.1, v.2);
    coupled_all = λ m q i j h. held.coupled_all m q i (s.was q j) h;
  }

  -- a message and a receive become a couple
  pub couple_found : (m : Message) (q : Receive) → Has ms m → Has qs q → (waits : List Message) (frees : List Receive) (pairs : List Couple)
      → DropsFrom waiting waits m → DropsFrom free frees q → AddsTo couples pairs (couple_of m q) → AreSets (λ n r. P n r ⊎ ((n ≡ m) × (r ≡ q))) ms qs waits frees opened pairs
  couple_found m q i j waits frees pairs w f c = record {
    senders = held.senders;
    receivers = held.receivers;
    messages_apart = held.messages_apart;
    receives_apart = held.receives_apart;
    waits = λ n k. let v = held.waits n (w.was n k) in (
      v.0,
      v.1,
      λ r l h. ⊎_elim (λ (p : P n r). v.2 r l p)
          (λ (e : (n ≡ m) × (r ≡ q)). w.dropped (subst (λ (x : Message). Has waits x) e.0 k)) h,
    );
    waits_all = λ n k l u. ⊎_elim (λ (x : Has waits n). x) (λ (e : n ≡ m). absurd (u q j (inr (e, refl)))) (w.keeps n (held.waits_all n k l (λ r a h. u r a (inl h))));
    frees = λ r k. let v = held.frees r (f.was r k) in (
      v.0,
      v.1,
      λ n l h. ⊎_elim (λ (p : P n r). v.2 n l p)
          (λ (e : (n ≡ m) × (r ≡ q)). f.dropped (subst (λ (x : Receive). Has frees x) e.1 k)) h,
    );
    frees_all = λ r k s u. ⊎_elim (λ (x : Has frees r). x) (λ (e : r ≡ q). absurd (u m i (inr (refl, e)))) (f.keeps r (held.frees_all r k s (λ n a h. u n a (inl h))));
    opens = held.opens;
    opens_all = held.opens_all;
    coupled = λ d k. ⊎_elim (λ (x : Has couples d). let v = held.coupled d x in (v.0, v.1, inl v.2))
        (λ (e : d ≡ couple_of m q).
        subst (λ (x : Couple). Has ms x.message × Has qs x.receive × (P x.message x.receive ⊎ ((x.message ≡ m) × (x.receive ≡ q)))) (sym e) (i, j, inr (refl, refl))) (c.cases d k);
    coupled_all = λ n r k l h. ⊎_elim (λ (p : P n r). c.keeps (couple_of n r) (held.coupled_all n r k l p))
        (λ (e : (n ≡ m) × (r ≡ q)). subst (λ (x : Message). Has pairs (couple_of x r)) (sym e.0) (subst (λ (x : Receive). Has pairs (couple_of m x)) (sym e.1) c.added)) h;
  }

  -- a receive comes that nothing takes: to the free ones, to the open ones, or void to neither
  module _ (more : List Receive) (q : Receive) (adds : AddsTo qs more q) (own : IsOwnReceive q) (apart : ArePostedApart more) (none : (m : Message) → Has ms m → P m q → ⊥) where
    receive_comes : (frees opens : List Receive)
        → ((r : Receive) → Has free r → Has frees r) → ((r : Receive) → Has frees r → Has free r ⊎ ((r ≡ q) × (is_settled q ≡ true))) → (is_settled q ≡ true → Has frees q)
        → ((r : Receive) → Has opened r → Has opens r) → ((r : Receive) → Has opens r → Has opened r ⊎ ((r ≡ q) × (is_open q ≡ true))) → (is_open q ≡ true → Has opens q)
        → AreSets P ms more waiting frees opens couples
    receive_comes frees opens keeps_free was_free new_free keeps_open was_open new_open = record {
      senders = held.senders;
      receivers = λ r i. ⊎_elim (λ (j : Has qs r). held.receivers r j) (λ (e : r ≡ q). subst (λ (x : Receive). IsOwnReceive x) (sym e) own) (adds.cases r i);
      messages_apart = held.messages_apart;
      receives_apart = apart;
      waits = λ n i. let v = held.waits n i in (v.0, v.1, λ r j h. ⊎_elim (λ (k : Has qs r). v.2 r k h) (λ (e : r ≡ q). none n v.0 (subst (λ (x : Receive). P n x) e h)) (adds.cases r j));
      waits_all = λ n i l u. held.waits_all n i l (λ r j h. u r (adds.keeps r j) h);
      frees = λ r i. ⊎_elim (λ (k : Has free r). let v = held.frees r k in (adds.keeps r v.0, v.1, v.2))
          (λ (e : (r ≡ q) × (is_settled q ≡ true)). subst (λ (x : Receive). Has more x × (is_settled x ≡ true) × ((m : Message) → Has ms m → P m x → ⊥)) (sym e.0) (adds.added, e.1, none)) (was_free r i);
      frees_all = λ r i s u. ⊎_elim (λ (k : Has qs r). keeps_free r (held.frees_all r k s u))
          (λ (e : r ≡ q). subst (λ (x : Receive). Has frees x) (sym e) (new_free (subst (λ (x : Receive). is_settled x ≡ true) e s))) (adds.cases r i);
      opens = λ r i. ⊎_elim (λ (k : Has opened r). let v = held.opens r k in (adds.keeps r v.0, v.1))
          (λ (e : (r ≡ q) × (is_open q ≡ true)). subst (λ (x : Receive). Has more x × (is_open x ≡ true)) (sym e.0) (adds.added, e.1)) (was_open r i);
      opens_all = λ r i s. ⊎_elim (λ (k : Has qs r). keeps_open r (held.opens_all r k s))
          (λ (e : r ≡ q). subst (λ (x : Receive). Has opens x) (sym e) (new_open (subst (λ (x : Receive). is_open x ≡ true) e s))) (adds.cases r i);
      coupled = λ c i. let v = held.coupled c i in (v.0, adds.keeps c.receive v.1, v.2);
      coupled_all = λ n r i j h. ⊎_elim (λ (k : Has qs r). held.coupled_all n r i k h) (λ (e : r ≡ q). absurd (none n i (subst (λ (x : Receive). P n x) e h))) (adds.cases r j);
    }

    pub receive_free : (frees : List Receive) → is_settled q ≡ true → (is_open q ≡ true → ⊥) → AddsTo free frees q → AreSets P ms more waiting frees opened couples
    receive_free frees s not a = receive_comes frees opened a.keeps (λ r i. ⊎_elim (λ (k : Has free r). inl k) (λ (e : r ≡ q). inr (e, s)) (a.cases r i)) (λ _. a.added)
        (λ r i. i) (λ r i. inl i) (λ o. absurd (not o))

    pub receive_open : (opens : List Receive) → is_open q ≡ true → (is_settled q ≡ true → ⊥) → AddsTo opened opens q → AreSets P ms more waiting free opens couples
    receive_open opens s not a = receive_comes free opens (λ r i. i) (λ r i. inl i) (λ o. absurd (not o))
        a.keeps (λ r i. ⊎_elim (λ (k : Has opened r). inl k) (λ (e : r ≡ q). inr (e, s)) (a.cases r i)) (λ _. a.added)

    pub receive_void : (is_open q ≡ true → ⊥) → (is_settled q ≡ true → ⊥) → AreSets P ms more waiting free opened couples
    receive_void not_open not_settled = receive_comes free opened (λ r i. i) (λ r i. inl i) (λ o. absurd (not_settled o)) (λ r i. i) (λ r i. inl i) (λ o. absurd (not_open o))

  -- a message comes that goes to none: to those that wait, or void to none
  module _ (more : List Message) (m : Message) (adds : AddsTo ms more m) (own : IsOwnMessage m) (apart : AreApart more) (none : (q : Receive) → Has qs q → P m q → ⊥) where
    message_comes : (waits : List Message) → ((n : Message) → Has waiting n → Has waits n) → ((n : Message) → Has waits n → Has waiting n ⊎ ((n ≡ m) × (is_live m.trust ≡ true))) → (is_live m.trust ≡ true → Has waits m)
        → AreSets P more qs waits free opened couples
    message_comes waits keeps was new = record {
      senders = λ n i. ⊎_elim (λ (j : Has ms n). held.senders n j) (λ (e : n ≡ m). subst (λ (x : Message). IsOwnMessage x) (sym e) own) (adds.cases n i);
      receivers = held.receivers;
      messages_apart = apart;
      receives_apart = held.receives_apart;
      waits = λ n i. ⊎_elim (λ (k : Has waiting n). let v = held.waits n k in (adds.keeps n v.0, v.1, v.2))
          (λ (e : (n ≡ m) × (is_live m.trust ≡ true)). subst (λ (x : Message). Has more x × (is_live x.trust ≡ true) × ((q : Receive) → Has qs q → P x q → ⊥)) (sym e.0) (adds.added, e.1, none)) (was n i);
      waits_all = λ n i l u. ⊎_elim (λ (k : Has ms n). keeps n (held.waits_all n k l u))
          (λ (e : n ≡ m). subst (λ (x : Message). Has waits x) (sym e) (new (subst (λ (x : Message). is_live x.trust ≡ true) e l))) (adds.cases n i);
      frees = λ r i. let v = held.frees r i in (v.0, v.1, λ n j h. ⊎_elim (λ (k : Has ms n). v.2 n k h) (λ (e : n ≡ m). none r v.0 (subst (λ (x : Message). P x r) e h)) (adds.cases n j));
      frees_all = λ r i s u. held.frees_all r i s (λ n j h. u n (adds.keeps n j) h);
      opens = held.opens;
      opens_all = held.opens_all;
      coupled = λ c i. let v = held.coupled c i in (adds.keeps c.message v.0, v.1, v.2);
      coupled_all = λ n r i j h. ⊎_elim (λ (k : Has ms n). held.coupled_all n r k j h) (λ (e : n ≡ m). absurd (none r j (subst (λ (x : Message). P x r) e h))) (adds.cases n i);
    }

    pub message_waits : (waits : List Message) → is_live m.trust ≡ true → AddsTo waiting waits m → AreSets P more qs waits free opened couples
    message_waits waits l a = message_comes waits a.keeps (λ n i. ⊎_elim (λ (k : Has waiting n). inl k) (λ (e : n ≡ m). inr (e, l)) (a.cases n i)) (λ _. a.added)

    pub message_void : (is_live m.trust ≡ true → ⊥) → AreSets P more qs waiting free opened couples
    message_void not = message_comes waiting (λ n i. i) (λ n i. inl i) (λ l. absurd (not l))

-- calls that stand apart in a longer list do so in a shorter one
pub fewer_apart : (qs more : List Receive) → ((r : Receive) → Has qs r → Has more r) → ArePostedApart more → ArePostedApart qs
fewer_apart qs more old apart q r i j e = apart q r (old q i) (old r j) e

pub fewer_sent_apart : (ms more : List Message) → ((n : Message) → Has ms n → Has more n) → AreApart more → AreApart ms
fewer_sent_apart ms more old apart m n i j e = apart m n (old m i) (old n j) e

-- a receive goes, and with it what it took
module _ (P : Message → Receive → Type 0) (ms : List Message) (qs more : List Receive) (q : Receive) (adds : AddsTo qs more q) (absent : Has qs q → ⊥)
    (waiting : List Message) (free opened : List Receive) (couples : List Couple) (held : AreSets P ms more waiting free opened couples) where
  pub receive_goes : (waits : List Message) (frees opens : List Receive) (pairs : List Couple)
      → ((n : Message) → Has waits n → Has ms n × (is_live n.trust ≡ true) × ((r : Receive) → Has qs r → P n r → ⊥)) → ((n : Message) → Has ms n → is_live n.trust ≡ true → ((r : Receive) → Has qs r → P n r → ⊥) → Has waits n)
      → ((r : Receive) → Has frees r → Has free r) → ((r : Receive) → Has free r → Has frees r ⊎ (r ≡ q)) → (Has frees q → ⊥)
      → ((r : Receive) → Has opens r → Has opened r) → ((r : Receive) → Has opened r → Has opens r ⊎ (r ≡ q)) → (Has opens q → ⊥)
      → ((c : Couple) → Has pairs c → Has couples c) → ((c : Couple) → Has couples c → Has pairs c ⊎ (c.receive ≡ q)) → ((c : Couple) → Has pairs c → c.receive ≡ q → ⊥)
      → AreSets P ms qs waits frees opens pairs
  receive_goes waits frees opens pairs is_waiting all_wait was_free keeps_free no_free was_open keeps_open no_open was_pair keeps_pair no_pair = record {
    senders = held.senders;
    receivers = λ r i. held.receivers r (adds.keeps r i);
    messages_apart = held.messages_apart;
    receives_apart = fewer_apart qs more adds.keeps held.receives_apart;
    waits = is_waiting;
    waits_all = all_wait;
    frees = λ r i. let v = held.frees r (was_free r i) in (there r v.0 (λ e. no_free (subst (λ (x : Receive). Has frees x) e i)), v.1, v.2);
    frees_all = λ r i s u. ⊎_elim (λ (x : Has frees r). x) (λ (e : r ≡ q). absurd (gone r i e)) (keeps_free r (held.frees_all r (adds.keeps r i) s u));
    opens = λ r i. let v = held.opens r (was_open r i) in (there r v.0 (λ e. no_open (subst (λ (x : Receive). Has opens x) e i)), v.1);
    opens_all = λ r i s. ⊎_elim (λ (x : Has opens r). x) (λ (e : r ≡ q). absurd (gone r i e)) (keeps_open r (held.opens_all r (adds.keeps r i) s));
    coupled = λ c i. let v = held.coupled c (was_pair c i) in (v.0, there c.receive v.1 (no_pair c i), v.2);
    coupled_all = λ n r i j h. ⊎_elim (λ (x : Has pairs (couple_of n r)). x) (λ (e : r ≡ q). absurd (gone r j e)) (keeps_pair (couple_of n r) (held.coupled_all n r i (adds.keeps r j) h));
  }
    where
      there : (r : Receive) → Has more r → (r ≡ q → ⊥) → Has qs r
      there r i not = ⊎_elim (λ (k : Has qs r). k) (λ (e : r ≡ q). absurd (not e)) (adds.cases r i)

      gone : (r : Receive) → Has qs r → r ≡ q → ⊥
      gone r i e = absent (subst (λ (x : Receive). Has qs x) e i)

-- a message goes, and with it where it went
module _ (P : Message → Receive → Type 0) (ms more : List Message) (qs : List Receive) (m : Message) (adds : AddsTo ms more m) (absent : Has ms m → ⊥)
    (waiting : List Message) (free opened : List Receive) (couples : List Couple) (held : AreSets P more qs waiting free opened couples) where
  pub message_goes : (waits : List Message) (frees : List Receive) (pairs : List Couple)
      → ((n : Message) → Has waits n → Has waiting n) → ((n : Message) → Has waiting n → Has waits n ⊎ (n ≡ m)) → (Has waits m → ⊥)
      → ((r : Receive) → Has frees r → Has qs r × (is_settled r ≡ true) × ((n : Message) → Has ms n → P n r → ⊥)) → ((r : Receive) → Has qs r → is_settled r ≡ true → ((n : Message) → Has ms n → P n r → ⊥) → Has frees r)
      → ((c : Couple) → Has pairs c → Has couples c) → ((c : Couple) → Has couples c → Has pairs c ⊎ (c.message ≡ m)) → ((c : Couple) → Has pairs c → c.message ≡ m → ⊥)
      → AreSets P ms qs waits frees opened pairs
  message_goes waits frees pairs was_waiting keeps_waiting no_waiting is_free all_free was_pair keeps_pair no_pair = record {
    senders = λ n i. held.senders n (adds.keeps n i);
    receivers = held.receivers;
    messages_apart = fewer_sent_apart ms more adds.keeps held.messages_apart;
    receives_apart = held.receives_apart;
    waits = λ n i. let v = held.waits n (was_waiting n i) in (there n v.0 (λ e. no_waiting (subst (λ (x : Message). Has waits x) e i)), v.1, v.2);
    waits_all = λ n i l u. ⊎_elim (λ (x : Has waits n). x) (λ (e : n ≡ m). absurd (gone n i e)) (keeps_waiting n (held.waits_all n (adds.keeps n i) l u));
    frees = is_free;
    frees_all = all_free;
    opens = held.opens;
    opens_all = held.opens_all;
    coupled = λ c i. let v = held.coupled c (was_pair c i) in (there c.message v.0 (no_pair c i), v.1, v.2);
    coupled_all = λ n r i j h. ⊎_elim (λ (x : Has pairs (couple_of n r)). x) (λ (e : n ≡ m). absurd (gone n i e)) (keeps_pair (couple_of n r) (held.coupled_all n r (adds.keeps n i) j h));
  }
    where
      there : (n : Message) → Has more n → (n ≡ m → ⊥) → Has ms n
      there n i not = ⊎_elim (λ (k : Has ms n). k) (λ (e : n ≡ m). absurd (not e)) (adds.cases n i)

      gone : (n : Message) → Has ms n → n ≡ m → ⊥
      gone n i e = absent (subst (λ (x : Message). Has ms x) e i)

-- the couples stand in another list
pub couples_kept : (P : Message → Receive → Type 0) (ms : List Message) (qs : List Receive) (waiting : List Message) (free opened : List Receive) (old new : List Couple) → AreSets P ms qs waiting free opened old → IsSameSet old new → AreSets P ms qs waiting free opened new
couples_kept P ms qs waiting free opened old new held same = same_lists P ms qs waiting free opened old held waiting free new (record { keeps = λ n i. i; was = λ n i. i }) (record { keeps = λ r i. i; was = λ r i. i }) same
