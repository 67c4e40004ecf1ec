-- A test of legal matchings, for examples.
use Rattle.std.proofs.Common.{◌≡◌, Bool, true, false, ◌&&◌, ◌||◌, List, inl, inr, ⊎_elim, refl, arith, eqb}
use Rattle.std.specs.Prelude.{not}
use Rattle.std.specs.List.{list_any, list_all}
use Rattle.std.proofs.lemmas.Bool.Decides.{nat_tests}
use Rattle.mpi_model.specs.declared.event.OpName.{OpName}
use Rattle.mpi_model.specs.declared.message.Message.{Message}
use Rattle.mpi_model.specs.declared.message.Receive.{Receive}
use Rattle.mpi_model.specs.Fit.{fits}
use Rattle.trace_pair.specs.Matching.{IsLegal, IsTaken, MayBeGivenBack}
use Rattle.trace_ops.specs.Order.{Has, posted_before}
use Rattle.trace_pair.specs.Places.{sent_no_later, posted_no_later}
use Rattle.trace_pair.specs.Pairing.{After}
use Rattle.mpi_model.specs.Trusts.{is_doubtful}
use Rattle.trace_pair.specs.Worked.{is_name}
use Rattle.trace_pair.proofs.Certain.{same_name}
use Rattle.trace_pair.proofs.Obeyed.{any_found, any_of, all_at, both, either, if_then-elim, not_true-elim}

named : (a b : OpName) → is_name a b ≡ true → a ≡ b
named a b h =
    let p = both (eqb a.rank b.rank && eqb a.call b.call) (eqb a.part b.part) h in
    let r = both (eqb a.rank b.rank) (eqb a.call b.call) p.0 in
    let x : a.rank ≡ b.rank = grind (arith, nat_tests) in
    let y : a.call ≡ b.call = grind (arith, nat_tests) in
    let z : a.part ≡ b.part = grind (arith, nat_tests) in
    same_name a b x y z

not_false : (b : Bool) → not b ≡ true → b ≡ false
not_false true h = absurd (cc)
not_false false h = refl

module _ (after : After) (ms : List Message) (qs : List Receive) (c : OpName → OpName → Bool) where
  -- what a couple has to be
  abbrev pub is_couple : Message → Receive → Bool
  is_couple m q =
      (fits m q && not (after m q)) && (list_all (λ (r : Receive). not (c m.name r.name) || is_name q.name r.name) qs && list_all (λ (n : Message). not (c n.name q.name) || is_name m.name n.name) ms)

  abbrev pub was_taken : Message → Receive → Bool
  was_taken m q =
      list_any (λ r. posted_no_later r q && c m.name r.name) qs
      || (list_any (λ n. sent_no_later n m && c n.name q.name) ms || list_any (λ (n : Message). not (eqb n.from m.from) && c n.name q.name) ms)

  -- a doubtful receive of an earlier call fits the message
  abbrev pub is_given_back : Message → Receive → Bool
  is_given_back m q = list_any (λ p. is_doubtful p.trust && posted_before p q && fits m p && not (after m p)) qs

  -- a doubtful one that is in no couple
  abbrev pub owes_nothing : Message → Receive → Bool
  owes_nothing m q = (is_doubtful m.trust && not (list_any (λ (r : Receive). c m.name r.name) qs)) || (is_doubtful q.trust && not (list_any (λ (n : Message). c n.name q.name) ms))

  abbrev pub is_right : Message → Receive → Bool
  is_right m q = (not (c m.name q.name) || is_couple m q) && (not (fits m q) || (c m.name q.name || (owes_nothing m q || (was_taken m q || is_given_back m q))))

  abbrev pub is_legal : Bool
  is_legal = list_all (λ m. list_all (λ q. is_right m q) qs) ms

  right_at : is_legal ≡ true → (m : Message) (q : Receive) → Has ms m → Has qs q → is_right m q ≡ true
  right_at h m q i j = all_at (λ q. is_right m q) qs q (all_at (λ m. list_all (λ q. is_right m q) qs) ms m h i) j

  couple_at : is_legal ≡ true → (m : Message) (q : Receive) → Has ms m → Has qs q → c m.name q.name ≡ true → is_couple m q ≡ true
  couple_at h m q i j k = if_then-elim (c m.name q.name) (is_couple m q) (both (not (c m.name q.name) || is_couple m q) (not (fits m q) || (c m.name q.name || (owes_nothing m q || (was_taken m q || is_given_back m q)))) (right_at h m q i j)).0 k

  taken_at : (m : Message) (q : Receive) → was_taken m q ≡ true → IsTaken ms qs (λ m q. c m.name q.name ≡ true) m q
  taken_at m q h =
      let a = list_any (λ r. posted_no_later r q && c m.name r.name) qs in
      let b = list_any (λ n. sent_no_later n m && c n.name q.name) ms in
      let d = list_any (λ (n : Message). not (eqb n.from m.from) && c n.name q.name) ms in
      ⊎_elim (λ (x : a ≡ true). let w = any_found (λ r. posted_no_later r q && c m.name r.name) qs x in inl (w.0, w.1, both (posted_no_later w.0 q) (c m.name w.0.name) w.2))
      (λ (y : (b || d) ≡ true). inr (⊎_elim
      (λ (x : b ≡ true). let w = any_found (λ n. sent_no_later n m && c n.name q.name) ms x in inl (w.0, w.1, both (sent_no_later w.0 m) (c w.0.name q.name) w.2))
      (λ (x : d ≡ true).
      let w = any_found (λ (n : Message). not (eqb n.from m.from) && c n.name q.name) ms x in
      let p = both (not (eqb w.0.from m.from)) (c w.0.name q.name) w.2 in
      inr (w.0, w.1, (λ (e : w.0.from ≡ m.from). not_true-elim (eqb w.0.from m.from) p.0 (grind (arith, nat_tests)), p.1)))
      (either b d y)))
      (either a (b || d) h)

  given_back_at : (m : Message) (q : Receive) → is_given_back m q ≡ true → MayBeGivenBack after qs m q
  given_back_at m q h =
      let w = any_found (λ p. is_doubtful p.trust && posted_before p q && fits m p && not (after m p)) qs h in
      let a = is_doubtful w.0.trust in let b = posted_before w.0 q in let d = fits m w.0 in
      let h3 = both (a && b && d) (not (after m w.0)) w.2 in
      let h2 = both (a && b) d h3.0 in
      let h1 = both a b h2.0 in
      (w.0, w.1, (h1.0, h1.1, h2.1, not_false (after m w.0) h3.1))

  pub legal_by_test : is_legal ≡ true → IsLegal after ms qs (λ m q. c m.name q.name ≡ true)
  legal_by_test h = record {
    one_receive = λ m q r i j j' k l.
        let a = fits m q && not (after m q) in
        let b = list_all (λ (r : Receive). not (c m.name r.name) || is_name q.name r.name) qs in
        let d = list_all (λ (n : Message). not (c n.name q.name) || is_name m.name n.name) ms in
        let x = (both b d (both a (b && d) (couple_at h m q i j k)).1).0 in
        named q.name r.name (if_then-elim (c m.name r.name) (is_name q.name r.name) (all_at (λ (r : Receive). not (c m.name r.name) || is_name q.name r.name) qs r x j') l);
    one_message = λ q m n j i i' k l.
        let a = fits m q && not (after m q) in
        let b = list_all (λ (r : Receive). not (c m.name r.name) || is_name q.name r.name) qs in
        let d = list_all (λ (n : Message). not (c n.name q.name) || is_name m.name n.name) ms in
        let x = (both b d (both a (b && d) (couple_at h m q i j k)).1).1 in
        named m.name n.name (if_then-elim (c n.name q.name) (is_name m.name n.name) (all_at (λ (n : Message). not (c n.name q.name) || is_name m.name n.name) ms n x i') l);
    fit = λ m q i j k.
        let a = fits m q && not (after m q) in
        let b = list_all (λ (r : Receive). not (c m.name r.name) || is_name q.name r.name) qs in
        let d = list_all (λ (n : Message). not (c n.name q.name) || is_name m.name n.name) ms in
        (both (fits m q) (not (after m q)) (both a (b && d) (couple_at h m q i j k)).0).0;
    not_after = λ m q i j k.
        let a = fits m q && not (after m q) in
        let b = list_all (λ (r : Receive). not (c m.name r.name) || is_name q.name r.name) qs in
        let d = list_all (λ (n : Message). not (c n.name q.name) || is_name m.name n.name) ms in
        not_false (after m q) (both (fits m q) (not (after m q)) (both a (b && d) (couple_at h m q i j k)).0).1;
    progress = λ m q i j f no joins_m joins_q.
        let a = not (c m.name q.name) || is_couple m q in
        let d = was_taken m q || is_given_back m q in
        let b = c m.name q.name || (owes_nothing m q || d) in
        let x = if_then-elim (fits m q) b (both a (not (fits m q) || b) (right_at h m q i j)).1 f in
        let om = is_doubtful m.trust && not (list_any (λ (r : Receive). c m.name r.name) qs) in
        let oq = is_doubtful q.trust && not (list_any (λ (n : Message). c n.name q.name) ms) in
        ⊎_elim (λ (k : c m.name q.name ≡ true). absurd (no k))
        (λ (y : (owes_nothing m q || d) ≡ true). ⊎_elim
        (λ (o : owes_nothing m q ≡ true). absurd (⊎_elim
        (λ (u : om ≡ true). let p = both (is_doubtful m.trust) (not (list_any (λ (r : Receive). c m.name r.name) qs)) u in
        let w = joins_m p.0 in not_true-elim (list_any (λ (r : Receive). c m.name r.name) qs) p.1 (any_of (λ (r : Receive). c m.name r.name) qs w.0 w.1 w.2))
        (λ (u : oq ≡ true). let p = both (is_doubtful q.trust) (not (list_any (λ (n : Message). c n.name q.name) ms)) u in
        let w = joins_q p.0 in not_true-elim (list_any (λ (n : Message). c n.name q.name) ms) p.1 (any_of (λ (n : Message). c n.name q.name) ms w.0 w.1 w.2))
        (either om oq o)))
        (λ (z : d ≡ true). ⊎_elim (λ (t : was_taken m q ≡ true). inl (taken_at m q t)) (λ (t : is_given_back m q ≡ true). inr (given_back_at m q t)) (either (was_taken m q) (is_given_back m q) z))
        (either (owes_nothing m q) d y))
        (either (c m.name q.name) (owes_nothing m q || d) x);
  }
