-- The pairs of a table are certain, and where no receive is open and no message doubtful they are the one legal
-- matching.
use Rattle.std.proofs.Common.{subst, ◌≡◌, Bool, true, false, List, inl, inr, ⊎_elim, sym, ap, Some}
use Rattle.std.specs.List.{AllZip}
use Rattle.std.specs.Option.{option_map}
use Rattle.mpi_model.specs.declared.event.OpName.{OpName}
use Rattle.mpi_model.specs.Trusts.{is_doubtful, is_open}
use Rattle.trace_ops.specs.Ops.{Ops, AreOwn, Grows, StaysCertain}
use Rattle.trace_ops.specs.Order.{Has}
use Rattle.trace_pair.specs.Certainty.{AreCertain, AreAllSettled, AreLegal, AreNoneAfter, AreTheOnlyLegal}
use Rattle.mpi_model.specs.Fit.{fits}
use Rattle.trace_pair.specs.Matching.{IsLegal, IsTaken, MayBeGivenBack, SomeOf}
use Rattle.trace_pair.specs.Places.{sent_no_later, posted_no_later, sent_together, posted_together}
use Rattle.trace_pair.specs.After.{comes_after}
use Rattle.trace_pair.specs.Pairing.{After, Paired, paired, receive_of}
use Rattle.trace_pair.specs.Table.{pair_of, pairs_of, sends_of, receives_of, Table, table_of}
use Rattle.trace_pair.specs.declared.pair.Pair.{Pair}
use Rattle.mpi_model.specs.declared.message.Message.{Message}
use Rattle.mpi_model.specs.declared.message.Receive.{Receive}
use Rattle.trace_pair.proofs.Certain.{certain, pairs_legal, only_legal}
use Rattle.trace_pair.proofs.Listed.{from_some, gives_some, mapped, found}
use Rattle.trace_pair.proofs.Partners.{receive_is_of}
use Rattle.trace_pair.proofs.Owned.{AreOwnCalls, own_calls}
use Rattle.trace_pair.proofs.Continued.{continues}
use Rattle.trace_pair.proofs.Names.{placed, placed_receive}

pub pair_has : (after : After) (ms : List Message) (qs : List Receive) (p : Pair) → Has (pairs_of after ms qs) p → (m : Message) × Has ms m × (q : Receive) × Has qs q × Paired after ms qs m q × (p ≡ pair_of m q)
pair_has after ms qs p i =
    let w = from_some (λ m. option_map (pair_of m) (receive_of after ms qs m)) ms p i in
    let v = mapped w.0 (receive_of after ms qs w.0) p w.2 in
    let u = found (paired after ms qs w.0) qs v.0 v.1 in
    (w.0, w.1, v.0, u.0, u.1, v.2)

pub sure : (held more : List Ops) (couple : OpName → OpName → Bool) → AreOwn 0 held → AreOwn 0 more → AllZip Grows held more → AllZip StaysCertain held more →
    IsLegal (comes_after more) (sends_of more) (receives_of more) (λ m q. couple m.name q.name ≡ true) → (p : Pair) → Has (pairs_of (comes_after held) (sends_of held) (receives_of held)) p → couple p.message p.receive ≡ true
sure held more couple a b z s legal p i =
    let w = pair_has (comes_after held) (sends_of held) (receives_of held) p i in
    let h = certain (comes_after held) (sends_of held) (receives_of held) (comes_after more) (sends_of more) (receives_of more) (continues held more a b z s) couple legal w.0 w.2 w.1 w.3 w.4 in
    subst (λ (x : Pair). couple x.message x.receive ≡ true) (sym w.5) h

module _ (after : After) (ms : List Message) (qs : List Receive) (held : AreOwnCalls ms qs) where
  pub is_paired : (m : Message) (q : Receive) → Has ms m → Has qs q → Has (pairs_of after ms qs) (pair_of m q) → Paired after ms qs m q
  is_paired m q i j h =
      let w = pair_has after ms qs (pair_of m q) h in
      let e : m ≡ w.0 = held.messages_apart m w.0 i w.1 (placed m w.0 (held.senders m i) (held.senders w.0 w.1) (ap (λ (p : Pair). p.message) w.5)) in
      let f : q ≡ w.2 = held.receives_apart q w.2 j w.3 (placed_receive q w.2 (held.receivers q j) (held.receivers w.2 w.3) (ap (λ (p : Pair). p.receive) w.5)) in
      subst (λ (n : Message). Paired after ms qs n q) (sym e) (subst (λ (r : Receive). Paired after ms qs w.0 r) (sym f) w.4)

  pub in_pairs : (m : Message) (q : Receive) → Has ms m → Has qs q → Paired after ms qs m q → Has (pairs_of after ms qs) (pair_of m q)
  in_pairs m q i j h =
      let e : Some q ≡ receive_of after ms qs m = receive_is_of after ms qs held.receives_apart m q i j h in
      gives_some (λ m. option_map (pair_of m) (receive_of after ms qs m)) ms m (pair_of m q) i (ap (option_map (pair_of m)) (sym e))

  module _ (none_open : (q : Receive) → Has qs q → is_open q ≡ false) (none_doubtful : (m : Message) → Has ms m → is_doubtful m.trust ≡ false)
      (one_part_sent : (m n : Message) (q : Receive) → Has ms m → Has ms n → Has qs q → sent_together n m ≡ true → fits m q ≡ true → fits n q ≡ true → ⊥)
      (one_part_posted : (m : Message) (q r : Receive) → Has ms m → Has qs q → Has qs r → posted_together r q ≡ true → fits m q ≡ true → fits m r ≡ true → ⊥) where
    pub table_legal : ((m : Message) (q : Receive) → Has ms m → Has qs q → Has (pairs_of after ms qs) (pair_of m q) → after m q ≡ false) → IsLegal after ms qs (λ m q. Has (pairs_of after ms qs) (pair_of m q))
    table_legal none_after =
        let l = pairs_legal after ms qs held.messages_apart held.receives_apart none_open none_doubtful one_part_sent one_part_posted (λ m q i j h. none_after m q i j (in_pairs m q i j h)) in
        record {
          one_receive = λ m q r i j k h g. l.one_receive m q r i j k (is_paired m q i j h) (is_paired m r i k g);
          one_message = λ q m n j i k h g. l.one_message q m n j i k (is_paired m q i j h) (is_paired n q k j g);
          fit = λ m q i j h. l.fit m q i j (is_paired m q i j h);
          not_after = none_after;
          progress = λ m q i j f none joins_m joins_q.
              ⊎_elim (λ (taken : IsTaken ms qs (Paired after ms qs) m q). inl (⊎_elim
              (λ (w : SomeOf qs (λ r. (posted_no_later r q ≡ true) × Paired after ms qs m r)). inl (w.0, w.1, (w.2.0, in_pairs m w.0 i w.1 w.2.1)))
              (λ d. inr (⊎_elim (λ (w : SomeOf ms (λ n. (sent_no_later n m ≡ true) × Paired after ms qs n q)). inl (w.0, w.1, (w.2.0, in_pairs w.0 q w.1 j w.2.1)))
              (λ w. inr (w.0, w.1, (w.2.0, in_pairs w.0 q w.1 j w.2.1))) d)) taken))
              (λ (back : MayBeGivenBack after qs m q). inr back)
              (l.progress m q i j f (λ h. none (in_pairs m q i j h))
              (λ d. let w = joins_m d in (w.0, w.1, is_paired m w.0 i w.1 w.2)) (λ d. let w = joins_q d in (w.0, w.1, is_paired w.0 q w.1 j w.2)));
        }

    pub table_only : (couple : OpName → OpName → Bool) → IsLegal after ms qs (λ m q. couple m.name q.name ≡ true) → (m : Message) (q : Receive) → Has ms m → Has qs q → couple m.name q.name ≡ true → Has (pairs_of after ms qs) (pair_of m q)
    table_only couple legal m q i j h = in_pairs m q i j (only_legal after ms qs held.messages_apart held.receives_apart none_open none_doubtful one_part_sent one_part_posted couple legal m q i j h)

-- the same of the table of all ranks' ops
pub certain_of : (held : List Ops) → AreOwn 0 held → AreCertain held (pairs_of (comes_after held) (sends_of held) (receives_of held))
certain_of held a = λ more couple b z s legal p i. sure held more couple a b z s legal p i

pub legal_of : (held : List Ops) → AreOwn 0 held → AreAllSettled held → AreNoneAfter held (pairs_of (comes_after held) (sends_of held) (receives_of held)) → AreLegal held (pairs_of (comes_after held) (sends_of held) (receives_of held))
legal_of held a all none_after = table_legal (comes_after held) (sends_of held) (receives_of held) (own_calls held a) all.none_open all.none_doubtful all.one_part_sent all.one_part_posted none_after

pub only_of : (held : List Ops) → AreOwn 0 held → AreAllSettled held → AreTheOnlyLegal held (pairs_of (comes_after held) (sends_of held) (receives_of held))
only_of held a all = λ couple legal m q i j h. table_only (comes_after held) (sends_of held) (receives_of held) (own_calls held a) all.none_open all.none_doubtful all.one_part_sent all.one_part_posted couple legal m q i j h

-- and of a table that is equal to it
pub certain_table : (held : List Ops) (t : Table) → AreOwn 0 held → t ≡ table_of held → AreCertain held t.pairs
certain_table held t a e = subst (λ (l : List Pair). AreCertain held l) (sym (ap (λ (x : Table). x.pairs) e)) (certain_of held a)

pub legal_table : (held : List Ops) (t : Table) → AreOwn 0 held → t ≡ table_of held → AreAllSettled held → AreNoneAfter held t.pairs → AreLegal held t.pairs
legal_table held t a e all none_after =
    subst (λ (l : List Pair). AreNoneAfter held l → AreLegal held l) (sym (ap (λ (x : Table). x.pairs) e)) (legal_of held a all) none_after

pub only_table : (held : List Ops) (t : Table) → AreOwn 0 held → t ≡ table_of held → AreAllSettled held → AreTheOnlyLegal held t.pairs
only_table held t a e all = subst (λ (l : List Pair). AreTheOnlyLegal held l) (sym (ap (λ (x : Table). x.pairs) e)) (only_of held a all)
