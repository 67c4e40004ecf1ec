-- Whether a message and a receive are a pair depends on the sender's messages to that rank of no later call, and on the
-- rank's receives of no later call.
use Rattle.std.proofs.Common.{◌≡◌, ℕ, zero, suc, ◌+◌, ◌<◌, ◌≤◌, true, ◌&&◌, eqb, ltb, List, ⊎_elim, refl, sym, ◌∙◌, arith}
use Rattle.std.specs.Prelude.{not}
use Rattle.std.proofs.lemmas.Bool.Decides.{nat_tests}
use Rattle.mpi_model.specs.declared.event.OpName.{OpName}
use Rattle.mpi_model.specs.declared.message.Message.{Message}
use Rattle.mpi_model.specs.declared.message.Receive.{Receive}
use Rattle.mpi_model.specs.Fit.{fits}
use Rattle.trace_ops.specs.Order.{Has}
use Rattle.trace_pair.specs.Pairing.{After, Paired}
use Rattle.trace_pair.specs.Places.{sent_at, posted_at, earlier, together, no_later}
use Rattle.trace_pair.proofs.Fitting.{fits_at}
use Rattle.trace_pair.proofs.Obeyed.{both, either, before_lt, posted_lt, sent_earlier, posted_earlier, pair_obeys, obeys_paired}

-- one rank's operation of no later call
pub record IsUpTo (a b : OpName) : Type 0 where
  pub rank : a.rank ≡ b.rank
  pub call : a.call ≤ b.call

pub up_to : (a b : OpName) → no_later a b ≡ true → IsUpTo a b
up_to a b h =
    ⊎_elim
    (λ (x : earlier a b ≡ true). let p = both (eqb a.rank b.rank) (ltb a.call b.call) x in record { rank = grind (arith, nat_tests); call = grind (arith, nat_tests) })
    (λ (x : together a b ≡ true). let p = both (eqb a.rank b.rank) (eqb a.call b.call) (both (eqb a.rank b.rank && eqb a.call b.call) (not (eqb a.part b.part)) x).0 in record { rank = grind (arith, nat_tests); call = grind (arith, nat_tests) })
    (either (earlier a b) (together a b) h)

up_self : (a : OpName) → IsUpTo a a
up_self a = record { rank = refl; call = omega arith }

up_along : (a b c : OpName) → IsUpTo a b → IsUpTo b c → IsUpTo a c
up_along a b c h g = let x = h.call in let y = g.call in record { rank = h.rank ∙ g.rank; call = omega arith }

-- Two lists of calls have the same messages to the receive's rank up to this message's call, and the same receives up
-- to this receive's call; and what comes after one of those receives in the one, does so in the other.
pub record SameUpTo (after : After) (ms : List Message) (qs : List Receive) (other : After) (other_ms : List Message) (other_qs : List Receive) (m : Message) (q : Receive) : Type 0 where
  pub messages : (n : Message) → IsUpTo (sent_at n) (sent_at m) → n.to ≡ q.at → Has ms n → Has other_ms n
  pub messages_back : (n : Message) → IsUpTo (sent_at n) (sent_at m) → n.to ≡ q.at → Has other_ms n → Has ms n
  pub receives : (r : Receive) → IsUpTo (posted_at r) (posted_at q) → Has qs r → Has other_qs r
  pub receives_back : (r : Receive) → IsUpTo (posted_at r) (posted_at q) → Has other_qs r → Has qs r
  pub stays_after : (n : Message) (r : Receive) → Has other_ms n → IsUpTo (sent_at n) (sent_at m) → IsUpTo (posted_at r) (posted_at q) → Has other_qs r → fits n r ≡ true → after n r ≡ true → other n r ≡ true

module _ (after : After) (ms : List Message) (qs : List Receive) (other : After) (other_ms : List Message) (other_qs : List Receive) where
  same_up_to : (m n : Message) (q r : Receive) → IsUpTo (sent_at n) (sent_at m) → IsUpTo (posted_at r) (posted_at q) → SameUpTo after ms qs other other_ms other_qs m q → SameUpTo after ms qs other other_ms other_qs n r
  same_up_to m n q r s p h = record {
    messages = λ x b t i. h.messages x (up_along (sent_at x) (sent_at n) (sent_at m) b s) (t ∙ p.rank) i;
    messages_back = λ x b t i. h.messages_back x (up_along (sent_at x) (sent_at n) (sent_at m) b s) (t ∙ p.rank) i;
    receives = λ x b i. h.receives x (up_along (posted_at x) (posted_at r) (posted_at q) b p) i;
    receives_back = λ x b i. h.receives_back x (up_along (posted_at x) (posted_at r) (posted_at q) b p) i;
    stays_after = λ x y k b c i f a. h.stays_after x y k (up_along (sent_at x) (sent_at n) (sent_at m) b s) (up_along (posted_at y) (posted_at r) (posted_at q) c p) i f a;
  }

  local_below : (k : ℕ) (m : Message) (q : Receive) → m.name.call + q.name.call < k → Has other_ms m → SameUpTo after ms qs other other_ms other_qs m q → Paired after ms qs m q → Paired other other_ms other_qs m q
  local_below zero m q lt im h g = absurd (omega arith)
  local_below (suc k) m q lt im h g =
      let o = pair_obeys after ms qs m q g in
      obeys_paired other other_ms other_qs m q (record {
        told = o.told;
        sure_receive = o.sure_receive;
        sure_message = o.sure_message;
        fit = o.fit;
        no_open = λ u i n p f.
            let v = up_to (posted_at u) (posted_at q) p in
            h.stays_after m u im (up_self (sent_at m)) v i f (o.no_open u (h.receives_back u v i) n p f);
        messages = λ n i s f.
            let v = up_to (sent_at n) (sent_at m) s in
            let w = o.messages n (h.messages_back n v (fits_at n q f) i) s f in
            let u = up_to (posted_at w.0) (posted_at q) (posted_earlier q w.0 w.2) in
            let x = v.call in let y = posted_lt q w.0 w.2 in
            (w.0, h.receives w.0 u w.1, w.2, local_below k n w.0 (omega arith) i (same_up_to m n q w.0 v u h) w.3);
        receives = λ r i t p f.
            let v = up_to (posted_at r) (posted_at q) p in
            let w = o.receives r (h.receives_back r v i) t p f in
            let u = up_to (sent_at w.0) (sent_at m) (sent_earlier m w.0 w.2) in
            let x = before_lt m w.0 w.2 in let y = v.call in
            let e = fits_at w.0 r (pair_obeys after ms qs w.0 r w.3).fit ∙ v.rank in
            let iw = h.messages w.0 u e w.1 in
            (w.0, iw, w.2, local_below k w.0 r (omega arith) iw (same_up_to m w.0 q r u v h) w.3);
      })

  pub pairs_are_local : (m : Message) (q : Receive) → Has other_ms m → SameUpTo after ms qs other other_ms other_qs m q → Paired after ms qs m q → Paired other other_ms other_qs m q
  pairs_are_local m q i h g = local_below (suc (m.name.call + q.name.call)) m q (omega arith) i h g

-- Whole calls that come at the ranks' ends, with no source told, no trust changed and no receive ended, leave each
-- couple as it was.
module _ (after : After) (ms : List Message) (qs : List Receive) (more_ms : List Message) (more_qs : List Receive)
    (sent : (m : Message) → Has ms m → Has more_ms m) (none_sent : (n m : Message) → Has more_ms n → Has ms m → IsUpTo (sent_at n) (sent_at m) → Has ms n)
    (posted : (q : Receive) → Has qs q → Has more_qs q) (none_posted : (r q : Receive) → Has more_qs r → Has qs q → IsUpTo (posted_at r) (posted_at q) → Has qs r) where
  pub stays_paired : (m : Message) (q : Receive) → Has ms m → Has qs q → Paired after ms qs m q → Paired after more_ms more_qs m q
  stays_paired m q i j h = pairs_are_local after ms qs after more_ms more_qs m q (sent m i) (record {
    messages = λ n s t k. sent n k;
    messages_back = λ n s t k. none_sent n m k i s;
    receives = λ r p k. posted r k;
    receives_back = λ r p k. none_posted r q k j p;
    stays_after = λ n r _ _ _ _ _ a. a;
  }) h

  pub stays_unpaired : (m : Message) (q : Receive) → Has ms m → Has qs q → Paired after more_ms more_qs m q → Paired after ms qs m q
  stays_unpaired m q i j h = pairs_are_local after more_ms more_qs after ms qs m q i (record {
    messages = λ n s t k. none_sent n m k i s;
    messages_back = λ n s t k. sent n k;
    receives = λ r p k. none_posted r q k j p;
    receives_back = λ r p k. posted r k;
    stays_after = λ n r _ _ _ _ _ a. a;
  }) h

-- Where the same messages come after the same receives, the pairs are the same.
module _ (ms : List Message) (qs : List Receive) (one other : After) (agree : (m : Message) (q : Receive) → Has ms m → Has qs q → fits m q ≡ true → one m q ≡ other m q) where
  pub same_pairs : (m : Message) (q : Receive) → Has ms m → Paired one ms qs m q → Paired other ms qs m q
  same_pairs m q i h = pairs_are_local one ms qs other ms qs m q i (record {
    messages = λ n s t k. k;
    messages_back = λ n s t k. k;
    receives = λ r p k. k;
    receives_back = λ r p k. k;
    stays_after = λ n r k _ _ j f a. sym (agree n r k j f) ∙ a;
  }) h
