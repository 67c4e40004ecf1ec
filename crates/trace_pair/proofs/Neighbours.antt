-- Calls that rise in a list, where no two neighbours are of one.
use Rattle.std.proofs.Common.{subst, ◌≡◌, ℕ, zero, suc, ◌-◌, ◌<◌, true, List, [], ◌∷◌, inl, ⊎_elim, sym, refl, ◌∙◌, ap, arith, length, get_or, eqb, ltb}
use Rattle.std.proofs.lemmas.Bool.Decides.{nat_tests}
use Rattle.std.proofs.lemmas.List.{get_or_default}
use Rattle.mpi_model.specs.declared.message.Message.{Message}
use Rattle.mpi_model.specs.declared.message.Receive.{Receive}
use Rattle.trace_ops.specs.Order.{Has, AreInOrder, ArePosted, named_before, sent_before, posted_before}
use Rattle.trace_pair.specs.Calls.{AreSentByCall, ArePostedByCall}
use Rattle.trace_pair.proofs.Obeyed.{and_true, both, before_lt, posted_lt}
use Rattle.trace_pair.proofs.Ranks.{listed_earlier}

module _ {X : Type 0} (call : X → ℕ) where
  -- of the first so many none is of the call of the next one
  abbrev pub AreApartTo : List X → ℕ → Type 0
  AreApartTo xs n = (k : ℕ) (d : X) → suc k < n → call (get_or xs k d) ≡ call (get_or xs (suc k) d) → ⊥

-- ---- messages

sent_through : (m n p : Message) → sent_before m n ≡ true → sent_before n p ≡ true → sent_before m p ≡ true
sent_through m n p h g =
    let a = both (eqb m.from n.from) (ltb m.name.call n.name.call) h in
    let b = both (eqb n.from p.from) (ltb n.name.call p.name.call) g in
    and_true (eqb m.from p.from) (ltb m.name.call p.name.call) (grind (arith, nat_tests)) (grind (arith, nat_tests))

pub sent_by_call : (ms : List Message) → AreInOrder ms → AreApartTo (λ (m : Message). m.name.call) ms (length ms) → AreSentByCall ms
sent_by_call [] o a = tt
sent_by_call (m ∷ []) o a = (λ n i. absurd i, tt)
sent_by_call (m ∷ n ∷ ms) o a =
    let rest = sent_by_call (n ∷ ms) o.1 (λ k d lt e. a (suc k) d (omega arith) e) in
    let p = both (eqb m.from n.from) (named_before m.name n.name) (o.0 n (inl refl)) in
    let first : sent_before m n ≡ true = and_true (eqb m.from n.from) (ltb m.name.call n.name.call) p.0 (listed_earlier m.name n.name p.1 (a zero m (omega arith))) in
    (λ x i. ⊎_elim (λ (e : x ≡ n). subst (λ (y : Message). sent_before m y ≡ true) (sym e) first) (λ (j : Has ms x). sent_through m n x first (rest.0 x j)) i, rest)

pub sent_neighbours : (ms : List Message) (k : ℕ) (d : Message) → AreSentByCall ms → suc k < length ms → (get_or ms k d).name.call ≡ (get_or ms (suc k) d).name.call → ⊥
sent_neighbours [] k d s lt e = absurd (omega arith)
sent_neighbours (m ∷ []) k d s lt e = absurd (omega arith)
sent_neighbours (m ∷ n ∷ ms) zero d s lt e = let le = before_lt n m (s.0 n (inl refl)) in absurd (omega arith)
sent_neighbours (m ∷ n ∷ ms) (suc k) d s lt e = sent_neighbours (n ∷ ms) k d s.1 (omega arith) e

pub sent_at_place : (ms : List Message) (n : ℕ) (a b : Message) → AreSentByCall ms → 0 < n → n < length ms → (get_or ms (n - 1) a).name.call ≡ (get_or ms n b).name.call → ⊥
sent_at_place ms n a b s low lt e =
    let x : suc (n - 1) ≡ n = omega arith in
    sent_neighbours ms (n - 1) a s (omega arith) (e ∙ ap (λ (m : Message). m.name.call) (get_or_default ms n b a lt ∙ ap (λ (j : ℕ). get_or ms j a) (sym x)))

-- ---- receives

posted_through : (q r p : Receive) → posted_before q r ≡ true → posted_before r p ≡ true → posted_before q p ≡ true
posted_through q r p h g =
    let a = both (eqb q.at r.at) (ltb q.name.call r.name.call) h in
    let b = both (eqb r.at p.at) (ltb r.name.call p.name.call) g in
    and_true (eqb q.at p.at) (ltb q.name.call p.name.call) (grind (arith, nat_tests)) (grind (arith, nat_tests))

pub posted_by_call : (qs : List Receive) → ArePosted qs → AreApartTo (λ (q : Receive). q.name.call) qs (length qs) → ArePostedByCall qs
posted_by_call [] o a = tt
posted_by_call (q ∷ []) o a = (λ r i. absurd i, tt)
posted_by_call (q ∷ r ∷ qs) o a =
    let rest = posted_by_call (r ∷ qs) o.1 (λ k d lt e. a (suc k) d (omega arith) e) in
    let p = both (eqb q.at r.at) (named_before q.name r.name) (o.0 r (inl refl)) in
    let first : posted_before q r ≡ true = and_true (eqb q.at r.at) (ltb q.name.call r.name.call) p.0 (listed_earlier q.name r.name p.1 (a zero q (omega arith))) in
    (λ x i. ⊎_elim (λ (e : x ≡ r). subst (λ (y : Receive). posted_before q y ≡ true) (sym e) first) (λ (j : Has qs x). posted_through q r x first (rest.0 x j)) i, rest)

pub posted_neighbours : (qs : List Receive) (k : ℕ) (d : Receive) → ArePostedByCall qs → suc k < length qs → (get_or qs k d).name.call ≡ (get_or qs (suc k) d).name.call → ⊥
posted_neighbours [] k d s lt e = absurd (omega arith)
posted_neighbours (q ∷ []) k d s lt e = absurd (omega arith)
posted_neighbours (q ∷ r ∷ qs) zero d s lt e = let le = posted_lt r q (s.0 r (inl refl)) in absurd (omega arith)
posted_neighbours (q ∷ r ∷ qs) (suc k) d s lt e = posted_neighbours (r ∷ qs) k d s.1 (omega arith) e

pub posted_at_place : (qs : List Receive) (n : ℕ) (a b : Receive) → ArePostedByCall qs → 0 < n → n < length qs → (get_or qs (n - 1) a).name.call ≡ (get_or qs n b).name.call → ⊥
posted_at_place qs n a b s low lt e =
    let x : suc (n - 1) ≡ n = omega arith in
    posted_neighbours qs (n - 1) a s (omega arith) (e ∙ ap (λ (q : Receive). q.name.call) (get_or_default qs n b a lt ∙ ap (λ (j : ℕ). get_or qs j a) (sym x)))
