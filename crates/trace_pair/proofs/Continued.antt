-- Where each rank goes on from what it did, by later calls, the calls of all ranks do.
use Rattle.std.proofs.Common.{subst, ◌≡◌, ℕ, ◌+◌, ◌≤◌, true, List, [], ◌∷◌, ◌++◌, inl, inr, ⊎_elim, sym, refl, arith, length, take, drop}
use Rattle.std.specs.List.{AllZip}
use Rattle.std.proofs.lemmas.List.{take-append-drop}
use Rattle.mpi_model.specs.declared.message.Message.{Message}
use Rattle.mpi_model.specs.declared.message.Receive.{Receive}
use Rattle.trace_ops.specs.Ops.{SameSend, TellsMore, Ops, AreOwn, Grows, StaysCertain, StaysSure}
use Rattle.trace_ops.specs.Order.{Has}
use Rattle.trace_pair.specs.After.{comes_after}
use Rattle.trace_pair.specs.Matching.{Continues, SomeOf}
use Rattle.trace_pair.specs.Places.{sent_at, posted_at, sent_no_later, posted_no_later}
use Rattle.trace_pair.specs.Table.{sends_of, receives_of}
use Rattle.trace_pair.proofs.Afterwards.{stays_after}
use Rattle.trace_pair.proofs.Listed.{has_take}
use Rattle.trace_pair.proofs.Local.{up_to}
use Rattle.trace_pair.proofs.Obeyed.{sent_le, posted_le}
use Rattle.trace_pair.proofs.Ranks.{has_left, has_right, has_either}
use Rattle.trace_pair.proofs.Ranked.{at_least}

zip_both : {A B : Type 0} (R S : A → B → Type 0) (xs : List A) (ys : List B) → AllZip R xs ys → AllZip S xs ys → AllZip (λ x y. R x y × S x y) xs ys
zip_both R S [] [] r s = tt
zip_both R S [] (y ∷ ys) r s = absurd r
zip_both R S (x ∷ xs) [] r s = absurd r
zip_both R S (x ∷ xs) (y ∷ ys) r s = ((r.0, s.0), zip_both R S xs ys r.1 s.1)

zip_second : {A B : Type 0} (R : A → B → Type 0) (xs : List A) (ys : List B) (x : A) → AllZip R xs ys → Has xs x → (y : B) × Has ys y × R x y
zip_second R [] [] x z i = absurd i
zip_second R [] (y ∷ ys) x z i = absurd i
zip_second R (w ∷ xs) [] x z i = absurd z
zip_second {A = A} R (w ∷ xs) (y ∷ ys) x z i =
    ⊎_elim (λ (e : x ≡ w). (y, inl refl, subst (λ (v : A). R v y) (sym e) z.0)) (λ j. let r = zip_second R xs ys x z.1 j in (r.0, inr r.1, r.2)) i

zip_first : {A B : Type 0} (R : A → B → Type 0) (xs : List A) (ys : List B) (y : B) → AllZip R xs ys → Has ys y → (x : A) × Has xs x × R x y
zip_first R [] [] y z i = absurd i
zip_first R [] (v ∷ ys) y z i = absurd z
zip_first R (x ∷ xs) [] y z i = absurd i
zip_first {B = B} R (x ∷ xs) (v ∷ ys) y z i =
    ⊎_elim (λ (e : y ≡ v). (x, inl refl, subst (λ (w : B). R x w) (sym e) z.0)) (λ j. let r = zip_first R xs ys y z.1 j in (r.0, inr r.1, r.2)) i

-- the message goes on, and stays sure
abbrev Sends : Message → Message → Type 0
Sends m n = SameSend m n × StaysSure m.trust n.trust

abbrev Tells : Receive → Receive → Type 0
Tells q r = TellsMore q r × StaysSure q.trust r.trust

-- one rank
sent : (o n : Ops) (m : Message) → Grows o n → StaysCertain o n → Has o.sends m → SomeOf n.sends (Sends m)
sent o n m g c i =
    let k = length o.sends in
    let r = zip_second Sends o.sends (take k n.sends) m (zip_both SameSend (λ m n. StaysSure m.trust n.trust) o.sends (take k n.sends) g.sends c.sends) i in
    (r.0, has_take n.sends k r.0 r.1, r.2)

none_sent : (o n : Ops) (x m : Message) → Grows o n → Has n.sends x → Has o.sends m → sent_no_later x m ≡ true → SomeOf o.sends (λ p. SameSend p x)
none_sent o n x m g i j b =
    let k = length o.sends in
    let e : take k n.sends ++ drop k n.sends ≡ n.sends = take-append-drop k n.sends in
    ⊎_elim (λ (h : Has (take k n.sends) x). zip_first SameSend o.sends (take k n.sends) x g.sends h)
    (λ (h : Has (drop k n.sends) x). let p = g.later.send_behind_sends m x j h in let q = sent_le m x b in absurd (omega arith))
    (has_either (take k n.sends) (drop k n.sends) x (subst (λ (l : List Message). Has l x) (sym e) i))

posted : (o n : Ops) (q : Receive) → Grows o n → StaysCertain o n → Has o.receives q → SomeOf n.receives (Tells q)
posted o n q g c i =
    let k = length o.receives in
    let r = zip_second Tells o.receives (take k n.receives) q (zip_both TellsMore (λ q r. StaysSure q.trust r.trust) o.receives (take k n.receives) g.receives c.receives) i in
    (r.0, has_take n.receives k r.0 r.1, r.2)

none_posted : (o n : Ops) (r q : Receive) → Grows o n → StaysCertain o n → Has n.receives r → Has o.receives q → posted_no_later r q ≡ true → SomeOf o.receives (λ p. Tells p r)
none_posted o n r q g c i j b =
    let k = length o.receives in
    let e : take k n.receives ++ drop k n.receives ≡ n.receives = take-append-drop k n.receives in
    ⊎_elim (λ (h : Has (take k n.receives) r). zip_first Tells o.receives (take k n.receives) r (zip_both TellsMore (λ q r. StaysSure q.trust r.trust) o.receives (take k n.receives) g.receives c.receives) h)
    (λ (h : Has (drop k n.receives) r). let p = g.later.receive_behind_receives q r j h in let s = posted_le q r b in absurd (omega arith))
    (has_either (take k n.receives) (drop k n.receives) r (subst (λ (l : List Receive). Has l r) (sym e) i))

-- all ranks
all_sent : (os ns : List Ops) (m : Message) → AllZip Grows os ns → AllZip StaysCertain os ns → Has (sends_of os) m → SomeOf (sends_of ns) (Sends m)
all_sent [] ns m z c i = absurd i
all_sent (o ∷ os) [] m z c i = absurd z
all_sent (o ∷ os) (n ∷ ns) m z c i =
    ⊎_elim (λ (h : Has o.sends m). let r = sent o n m z.0 c.0 h in (r.0, has_left n.sends (sends_of ns) r.0 r.1, r.2))
    (λ (h : Has (sends_of os) m). let r = all_sent os ns m z.1 c.1 h in (r.0, has_right n.sends (sends_of ns) r.0 r.1, r.2)) (has_either o.sends (sends_of os) m i)

all_posted : (os ns : List Ops) (q : Receive) → AllZip Grows os ns → AllZip StaysCertain os ns → Has (receives_of os) q → SomeOf (receives_of ns) (Tells q)
all_posted [] ns q z c i = absurd i
all_posted (o ∷ os) [] q z c i = absurd z
all_posted (o ∷ os) (n ∷ ns) q z c i =
    ⊎_elim (λ (h : Has o.receives q). let r = posted o n q z.0 c.0 h in (r.0, has_left n.receives (receives_of ns) r.0 r.1, r.2))
    (λ (h : Has (receives_of os) q). let r = all_posted os ns q z.1 c.1 h in (r.0, has_right n.receives (receives_of ns) r.0 r.1, r.2)) (has_either o.receives (receives_of os) q i)

sent_above : (os : List Ops) (first : ℕ) (m : Message) → AreOwn first os → Has (sends_of os) m → first ≤ m.from
sent_above os first m a i = at_least (λ o. o.sends) (λ m. m.from) (λ r o m w. w.sent_from m) os first m a i

posted_above : (os : List Ops) (first : ℕ) (q : Receive) → AreOwn first os → Has (receives_of os) q → first ≤ q.at
posted_above os first q a i = at_least (λ o. o.receives) (λ q. q.at) (λ r o q w. w.posted_at q) os first q a i

all_none_sent : (os ns : List Ops) (first : ℕ) (x m : Message) → AreOwn first os → AreOwn first ns → AllZip Grows os ns → Has (sends_of ns) x → Has (sends_of os) m → sent_no_later x m ≡ true → SomeOf (sends_of os) (λ p. SameSend p x)
all_none_sent [] ns first x m a c z i j b = absurd j
all_none_sent (o ∷ os) [] first x m a c z i j b = absurd z
all_none_sent (o ∷ os) (n ∷ ns) first x m a c z i j b =
    let e = (up_to (sent_at x) (sent_at m) b).rank in
    ⊎_elim
    (λ (h : Has n.sends x). ⊎_elim (λ (k : Has o.sends m). let w = none_sent o n x m z.0 h k b in (w.0, has_left o.sends (sends_of os) w.0 w.1, w.2))
    (λ (k : Has (sends_of os) m). let p = c.0.sent_from x h in let q = sent_above os (first + 1) m a.1 k in absurd (omega arith)) (has_either o.sends (sends_of os) m j))
    (λ (h : Has (sends_of ns) x). ⊎_elim (λ (k : Has o.sends m). let p = sent_above ns (first + 1) x c.1 h in let q = a.0.sent_from m k in absurd (omega arith))
    (λ (k : Has (sends_of os) m). let w = all_none_sent os ns (first + 1) x m a.1 c.1 z.1 h k b in (w.0, has_right o.sends (sends_of os) w.0 w.1, w.2)) (has_either o.sends (sends_of os) m j))
    (has_either n.sends (sends_of ns) x i)

all_none_posted : (os ns : List Ops) (first : ℕ) (r q : Receive) → AreOwn first os → AreOwn first ns → AllZip Grows os ns → AllZip StaysCertain os ns → Has (receives_of ns) r → Has (receives_of os) q → posted_no_later r q ≡ true → SomeOf (receives_of os) (λ p. Tells p r)
all_none_posted [] ns first r q a c z sure i j b = absurd j
all_none_posted (o ∷ os) [] first r q a c z sure i j b = absurd z
all_none_posted (o ∷ os) (n ∷ ns) first r q a c z sure i j b =
    let e = (up_to (posted_at r) (posted_at q) b).rank in
    ⊎_elim
    (λ (h : Has n.receives r). ⊎_elim (λ (k : Has o.receives q). let w = none_posted o n r q z.0 sure.0 h k b in (w.0, has_left o.receives (receives_of os) w.0 w.1, w.2))
    (λ (k : Has (receives_of os) q). let p = c.0.posted_at r h in let s = posted_above os (first + 1) q a.1 k in absurd (omega arith)) (has_either o.receives (receives_of os) q j))
    (λ (h : Has (receives_of ns) r). ⊎_elim (λ (k : Has o.receives q). let p = posted_above ns (first + 1) r c.1 h in let s = a.0.posted_at q k in absurd (omega arith))
    (λ (k : Has (receives_of os) q). let w = all_none_posted os ns (first + 1) r q a.1 c.1 z.1 sure.1 h k b in (w.0, has_right o.receives (receives_of os) w.0 w.1, w.2)) (has_either o.receives (receives_of os) q j))
    (has_either n.receives (receives_of ns) r i)

pub continues : (os ns : List Ops) → AreOwn 0 os → AreOwn 0 ns → AllZip Grows os ns → AllZip StaysCertain os ns →
    Continues (comes_after os) (sends_of os) (receives_of os) (comes_after ns) (sends_of ns) (receives_of ns)
continues os ns a c z s = record {
  sent = λ m i. all_sent os ns m z s i;
  none_sent_before = λ n m i j b. all_none_sent os ns 0 n m a c z i j b;
  posted = λ q i. all_posted os ns q z s i;
  none_posted_before = λ r q i j b. all_none_posted os ns 0 r q a c z s i j b;
  stays_after = λ m n q r i _ same j _ tells h. stays_after os ns a c z m n q r i same j tells h;
}
