-- The rows of a rank's collective calls, as one call comes.
use Rattle.std.proofs.Common.{◌≡◌, ℕ, zero, suc, ◌+◌, ◌-◌, ◌<◌, ◌≤◌, Bool, true, false, List, [], ◌∷◌, ◌++◌, sym, refl, ◌∙◌, ap, arith, length, filter, take, get_or, eqb, ltb, cond, Option, Some, None}
use Rattle.std.specs.Prelude.{unwrap_or}
use Rattle.std.specs.List.Sorted.{IsNonDecreasingBy}
use Rattle.std.proofs.lemmas.List.{take_more, append-nil}
use Rattle.std.proofs.lemmas.List.Elements.{filter-append, filter_more}
use Rattle.trace_ops.specs.Round.{is_barrier, is_communication}
use Rattle.trace_ops.specs.declared.entered.Entered.{Entered}
use Rattle.trace_pair.specs.After.{communications}
use Rattle.trace_pair.specs.Barriers.{OnComm, Rise, calls_on, barriers_on, on_comm, barrier_at, with_barrier, with_entry, last_before}
use Rattle.trace_pair.specs.declared.reach.Barrier.{Barrier}
use Rattle.trace_pair.proofs.Tabled.{has_at}

through : {X Y : Type 0} (f : X → Y) (b : Bool) (x y : X) → f (cond b x y) ≡ cond b (f x) (f y)
through f true x y = refl
through f false x y = refl

calls_more : (comm : ℕ) (xs : List Entered) (x : Entered) →
    calls_on comm (xs ++ x ∷ []) ≡ cond (eqb x.comm comm) (calls_on comm xs ++ x.call ∷ []) (calls_on comm xs)
calls_more comm [] x = refl
calls_more comm (y ∷ ys) x =
    let is = eqb x.comm comm in
    let now = calls_on comm ys in
    let more = calls_more comm ys x in
    elim (eqb y.comm comm) as (λ b. cond b (y.call ∷ calls_on comm (ys ++ x ∷ [])) (calls_on comm (ys ++ x ∷ [])) ≡ cond is (cond b (y.call ∷ now) now ++ x.call ∷ []) (cond b (y.call ∷ now) now)) [
      | true ↦ ap (λ (l : List ℕ). y.call ∷ l) more ∙ through (λ (l : List ℕ). y.call ∷ l) is (now ++ x.call ∷ []) now
      | false ↦ more
    ]

with_more : (p : Barrier) (l : List Barrier) (k : ℕ) (x : Entered) → p ∷ with_barrier l k x ≡ with_barrier (p ∷ l) k x
with_more p l k x = through (λ (l : List Barrier). p ∷ l) (is_barrier x) (l ++ barrier_at k x ∷ []) l

barriers_more : (comm n : ℕ) (xs : List Entered) (x : Entered) (k : ℕ) → k ≡ n + length (calls_on comm xs) →
    barriers_on comm n (xs ++ x ∷ []) ≡ cond (eqb x.comm comm) (with_barrier (barriers_on comm n xs) k x) (barriers_on comm n xs)
barriers_more comm n [] x k e =
    let same : k ≡ n = omega arith in
    ap (λ i. cond (eqb x.comm comm) (cond (is_barrier x) (barrier_at i x ∷ []) []) []) (sym same)
barriers_more comm n (y ∷ ys) x k e =
    let is = eqb x.comm comm in
    elim (eqb y.comm comm) as (λ b. k ≡ n + length (cond b (y.call ∷ calls_on comm ys) (calls_on comm ys)) →
    cond b (cond (is_barrier y) (barrier_at n y ∷ barriers_on comm (suc n) (ys ++ x ∷ [])) (barriers_on comm (suc n) (ys ++ x ∷ []))) (barriers_on comm n (ys ++ x ∷ [])) ≡
    cond is (with_barrier (cond b (cond (is_barrier y) (barrier_at n y ∷ barriers_on comm (suc n) ys) (barriers_on comm (suc n) ys)) (barriers_on comm n ys)) k x)
    (cond b (cond (is_barrier y) (barrier_at n y ∷ barriers_on comm (suc n) ys) (barriers_on comm (suc n) ys)) (barriers_on comm n ys))) [
      | true ↦ λ at.
          let now = barriers_on comm (suc n) ys in
          let more = barriers_more comm (suc n) ys x k (omega arith) in
          elim (is_barrier y) as (λ b. cond b (barrier_at n y ∷ barriers_on comm (suc n) (ys ++ x ∷ [])) (barriers_on comm (suc n) (ys ++ x ∷ [])) ≡
          cond is (with_barrier (cond b (barrier_at n y ∷ now) now) k x) (cond b (barrier_at n y ∷ now) now)) [
            | true ↦ ap (λ (l : List Barrier). barrier_at n y ∷ l) more ∙ through (λ (l : List Barrier). barrier_at n y ∷ l) is (with_barrier now k x) now
                ∙ ap (λ (l : List Barrier). cond is l (barrier_at n y ∷ now)) (with_more (barrier_at n y) now k x)
            | false ↦ more
          ]
      | false ↦ λ at. barriers_more comm n ys x k at
    ] e

abbrev row : List ℕ → List Barrier → OnComm
row a b = record { calls = a; barriers = b }

-- one call more, on any communicator
on_comm_more : (comm : ℕ) (xs : List Entered) (x : Entered) → on_comm comm (xs ++ x ∷ []) ≡ cond (eqb x.comm comm) (with_entry (on_comm comm xs) x) (on_comm comm xs)
on_comm_more comm xs x = by (eqb x.comm comm) _ _ _ _ _ _ (calls_more comm xs x) (barriers_more comm 0 xs x (length (calls_on comm xs)) (omega arith))
  where
    by : (b : Bool) (c c1 c2 : List ℕ) (d d1 d2 : List Barrier) → c ≡ cond b c1 c2 → d ≡ cond b d1 d2 → row c d ≡ cond b (row c1 d1) (row c2 d2)
    by true c c1 c2 d d1 d2 h g = ap (λ (l : List ℕ). row l d) h ∙ ap (λ (l : List Barrier). row c1 l) g
    by false c c1 c2 d d1 d2 h g = ap (λ (l : List ℕ). row l d) h ∙ ap (λ (l : List Barrier). row c2 l) g

-- the row of a communicator by its collective communications, as a call comes
pub counted_step : (comm : ℕ) (es : List Entered) (i : ℕ) (x : Entered) (old new : OnComm) → i < length es → x ≡ get_or es i x → old ≡ on_comm comm (communications (take i es)) →
    new ≡ cond (is_communication x) (cond (eqb x.comm comm) (with_entry old x) old) old → new ≡ on_comm comm (communications (take (i + 1) es))
counted_step comm es i x old new lt is was e =
    let grown : communications (take (i + 1) es) ≡ communications (take i es) ++ cond (is_communication x) (x ∷ []) [] =
    ap communications (take_more es i x lt ∙ ap (λ (z : Entered). take i es ++ z ∷ []) (sym is)) ∙ filter-append is_communication (take i es) (x ∷ []) in
    e ∙ by (is_communication x) ∙ sym (ap (on_comm comm) grown)
  where
    by : (b : Bool) → cond b (cond (eqb x.comm comm) (with_entry old x) old) old ≡ on_comm comm (communications (take i es) ++ cond b (x ∷ []) [])
    by true = ap (λ (r : OnComm). cond (eqb x.comm comm) (with_entry r x) r) was ∙ sym (on_comm_more comm (communications (take i es)) x)
    by false = was ∙ ap (on_comm comm) (sym (append-nil (communications (take i es))))

-- one communicator more, kept where it passes the test
pub kept : (p : ℕ → Bool) (xs : List ℕ) (i : ℕ) (old new : List ℕ) (t : Bool) → i < length xs → t ≡ p (get_or xs i 0) → old ≡ filter p (take i xs) →
    new ≡ cond t (old ++ get_or xs i 0 ∷ []) old → new ≡ filter p (take (i + 1) xs)
kept p xs i old new t lt is was e =
    let x = get_or xs i 0 in
    e ∙ ap (λ (l : List ℕ). cond t (l ++ x ∷ []) l) was ∙ ap (λ b. cond b (filter p (take i xs) ++ x ∷ []) (filter p (take i xs))) is ∙ by (p x) x (filter p (take i xs))
    ∙ sym (filter_more p xs i 0 lt)
  where
    by : (b : Bool) (x : ℕ) (l : List ℕ) → cond b (l ++ x ∷ []) l ≡ l ++ cond b (x ∷ []) []
    by true x l = refl
    by false x l = sym (append-nil l)

pub calls_rise : (bs : List Barrier) → Rise bs → IsNonDecreasingBy (λ b. b.call) bs
calls_rise [] r i j d le lt = absurd (omega arith)
calls_rise (b ∷ bs) r zero zero d le lt = omega arith
calls_rise (b ∷ bs) r zero (suc j) d le lt = let p = (r.0 (get_or bs j d) (has_at bs j d (omega arith))).call in omega arith
calls_rise (b ∷ bs) r (suc i) zero d le lt = absurd (omega arith)
calls_rise (b ∷ bs) r (suc i) (suc j) d le lt = calls_rise bs r.1 i j d (omega arith) (omega arith)

-- by the place that a search answers
abbrev pub at_place : List Barrier → ℕ → Barrier → Option ℕ
at_place bs zero d = None
at_place bs (suc i) d = Some (get_or bs i d).before

pub last_at : (call : ℕ) (bs : List Barrier) (i : ℕ) (d : Barrier) → i ≤ length bs → ((k : ℕ) → k < i → ltb (get_or bs k d).call call ≡ true) →
    ((k : ℕ) → i ≤ k → k < length bs → ltb (get_or bs k d).call call ≡ false) → last_before call bs ≡ at_place bs i d
last_at call [] zero d le low high = refl
last_at call [] (suc i) d le low high = absurd (omega arith)
last_at call (b ∷ bs) zero d le low high = ap (λ t. cond t (Some (unwrap_or (last_before call bs) b.before)) None) (high zero (omega arith) (omega arith))
last_at call (b ∷ bs) (suc zero) d le low high =
    ap (λ t. cond t (Some (unwrap_or (last_before call bs) b.before)) None) (low zero (omega arith))
    ∙ ap (λ o. Some (unwrap_or o b.before)) (last_at call bs zero d (omega arith) (λ k lt. absurd (omega arith)) (λ k ge lt. high (suc k) (omega arith) (omega arith)))
last_at call (b ∷ bs) (suc (suc i)) d le low high =
    ap (λ t. cond t (Some (unwrap_or (last_before call bs) b.before)) None) (low zero (omega arith))
    ∙ ap (λ o. Some (unwrap_or o b.before)) (last_at call bs (suc i) d (omega arith) (λ k lt. low (suc k) (omega arith)) (λ k ge lt. high (suc k) (omega arith) (omega arith)))

pub at_last : (bs : List Barrier) (i : ℕ) (d : Barrier) → (i ≡ 0 → ⊥) → at_place bs i d ≡ Some (get_or bs (i - 1) d).before
at_last bs zero d h = absurd (h refl)
at_last bs (suc i) d h = let e : suc i - 1 ≡ i = omega arith in ap (λ k. Some (get_or bs k d).before) (sym e)
