-- What comes after a receive, by the last Barriers alone.
--
-- A sender has left the more, the later its message, and what is entered behind the end of a receive stays so. So of
-- its Barriers on a communicator the last one before the message decides.
use Rattle.std.proofs.Common.{◌≡◌, ℕ, zero, suc, ◌+◌, ◌<◌, ◌≤◌, Bool, true, false, ◌&&◌, ◌||◌, List, [], ◌∷◌, ◌++◌, inl, inr, ⊎_elim, sym, refl, ◌∙◌, ap, arith, length, filter, take, drop, get_or, add-one, eqb, ltb, eqb-true, zero-add, cond, Option, Some, None, subst}
use Rattle.std.specs.Prelude.{nat_le, unwrap_or, slice_get, slice_set}
use Rattle.std.specs.List.{list_any}
use Rattle.std.proofs.lemmas.Bool.Decides.{nat_tests}
use Rattle.std.proofs.lemmas.List.{get_or_past, take_more}
use Rattle.std.proofs.Math.Seq.{drop-cons}
use Rattle.mpi_model.specs.declared.message.Message.{Message}
use Rattle.trace_ops.specs.Ops.{Ops, AreOwn, no_ops}
use Rattle.trace_ops.specs.Order.{Has, AreEntered}
use Rattle.trace_ops.specs.Round.{is_barrier}
use Rattle.trace_ops.specs.declared.entered.Entered.{Entered}
use Rattle.trace_pair.specs.After.{communicating, communications, entered_before, is_left, is_own, is_after}
use Rattle.trace_pair.specs.Barriers.{OnComm, Rise, IsBarrierBefore, calls_on, barriers_on, on_comm, barrier_at, last_before}
use Rattle.trace_pair.specs.Reach.{IsReachOf, AreReachesOf, AreRowsRising, has_barrier, holds, is_entered_behind, is_met, is_passed_in, is_passed_on, row_at}
use Rattle.trace_pair.specs.declared.reach.Barrier.{Barrier}
use Rattle.trace_pair.specs.declared.reach.RankReach.{RankReach}
use Rattle.trace_pair.proofs.Afterwards.{none_entered, no_receiver}
use Rattle.trace_pair.proofs.Obeyed.{and_true, any_found, any_of, both}

-- the calls behind the first come later
later : (x : Entered) (xs : List Entered) → AreEntered (x ∷ xs) → (y : Entered) → Has xs y → x.call < y.call
later x xs r y i = let t = r.0 y i in grind (arith, nat_tests)

none_behind : (comm e : ℕ) (x : Entered) (xs : List Entered) → AreEntered (x ∷ xs) → e ≤ x.call → entered_before comm e xs ≡ 0
none_behind comm e x xs r le = none_entered comm e xs (λ y i. let lt = later x xs r y i in omega arith)

more_behind : (n l k : ℕ) (b : Bool) → nat_le n k ≡ (nat_le l k || b) → nat_le (suc n) (suc k) ≡ (nat_le (suc l) (suc k) || b)
more_behind n l k b h =
    let p : nat_le (suc n) (suc k) ≡ nat_le n k = grind (arith, nat_tests) in
    let q : nat_le (suc l) (suc k) ≡ nat_le l k = grind (arith, nat_tests) in
    p ∙ h ∙ ap (λ t. t || b) (sym q)

still_none : (l k : ℕ) (b : Bool) → nat_le 0 k ≡ (nat_le l k || b) → nat_le 0 (suc k) ≡ (nat_le (suc l) (suc k) || b)
still_none l k b h =
    let p : nat_le 0 (suc k) ≡ nat_le 0 k = grind (arith, nat_tests) in
    let q : nat_le (suc l) (suc k) ≡ nat_le l k = grind (arith, nat_tests) in
    p ∙ h ∙ ap (λ t. t || b) (sym q)

module _ (comm e : ℕ) (x : Entered) (xs : List Entered) (r : AreEntered (x ∷ xs)) (rest : (k : ℕ) → nat_le (entered_before comm e xs) k ≡ is_entered_behind (calls_on comm xs) e k) where
  first_behind : (b : Bool) → ltb x.call e ≡ b → (k : ℕ) → nat_le (cond b (suc (entered_before comm e xs)) (entered_before comm e xs)) k ≡ is_entered_behind (x.call ∷ calls_on comm xs) e k
  first_behind true h zero =
      let p : nat_le (suc (entered_before comm e xs)) 0 ≡ false = grind (arith, nat_tests) in
      let q : nat_le (suc (length (calls_on comm xs))) 0 ≡ false = grind (arith, nat_tests) in
      let s : nat_le e x.call ≡ false = grind (arith, nat_tests) in
      p ∙ sym (ap (λ t. t || nat_le e x.call) q ∙ s)
  first_behind true h (suc k) = more_behind (entered_before comm e xs) (length (calls_on comm xs)) k (nat_le e (get_or (calls_on comm xs) k 0)) (rest k)
  first_behind false h zero =
      let le : e ≤ x.call = grind (arith, nat_tests) in
      let z = none_behind comm e x xs r le in
      let p : nat_le 0 0 ≡ true = grind (arith, nat_tests) in
      let q : nat_le (suc (length (calls_on comm xs))) 0 ≡ false = grind (arith, nat_tests) in
      let s : nat_le e x.call ≡ true = grind (arith, nat_tests) in
      ap (λ n. nat_le n 0) z ∙ p ∙ sym (ap (λ t. t || nat_le e x.call) q ∙ s)
  first_behind false h (suc k) =
      let le : e ≤ x.call = grind (arith, nat_tests) in
      let z = none_behind comm e x xs r le in
      ap (λ n. nat_le n (suc k)) z
      ∙ still_none (length (calls_on comm xs)) k (nat_le e (get_or (calls_on comm xs) k 0)) (ap (λ n. nat_le n k) (sym z) ∙ rest k)

-- Before call e a rank has entered at most k collective calls where its call with k before it isn't there, or isn't
-- before e.
pub few_are_behind : (comm e : ℕ) (xs : List Entered) (k : ℕ) → AreEntered xs → nat_le (entered_before comm e xs) k ≡ is_entered_behind (calls_on comm xs) e k
few_are_behind comm e [] k r = let z : nat_le 0 k ≡ true = grind (arith, nat_tests) in z ∙ sym (ap (λ t. t || nat_le e 0) z)
few_are_behind comm e (x ∷ xs) k r =
    let n = entered_before comm e xs in
    let cs = calls_on comm xs in
    elim (eqb x.comm comm) as (λ b. nat_le (cond (b && ltb x.call e) (suc n) n) k ≡ is_entered_behind (cond b (x.call ∷ cs) cs) e k) [
      | true ↦ first_behind comm e x xs r (λ i. few_are_behind comm e xs i r.1) (ltb x.call e) refl k
      | false ↦ few_are_behind comm e xs k r.1
    ]

-- how many calls stand before one of them
first_place : (comm : ℕ) (x : Entered) (xs : List Entered) → AreEntered (x ∷ xs) → entered_before comm x.call (x ∷ xs) ≡ 0
first_place comm x xs r =
    let z = none_behind comm x.call x xs r (omega arith) in
    let e : ltb x.call x.call ≡ false = grind (arith, nat_tests) in
    elim (eqb x.comm comm) as (λ b. cond (b && ltb x.call x.call) (suc (entered_before comm x.call xs)) (entered_before comm x.call xs) ≡ 0) [
      | true ↦ ap (λ t. cond t (suc (entered_before comm x.call xs)) (entered_before comm x.call xs)) e ∙ z
      | false ↦ z
    ]

next_place : (comm : ℕ) (x : Entered) (xs : List Entered) → AreEntered (x ∷ xs) → (y : Entered) → Has xs y →
    entered_before comm y.call (x ∷ xs) ≡ cond (eqb x.comm comm) (suc (entered_before comm y.call xs)) (entered_before comm y.call xs)
next_place comm x xs r y i =
    let n = entered_before comm y.call xs in
    let e = r.0 y i in
    elim (eqb x.comm comm) as (λ b. cond (b && ltb x.call y.call) (suc n) n ≡ cond b (suc n) n) [ true ↦ ap (λ t. cond t (suc n) n) e | false ↦ refl ]

shifts : (n : ℕ) (t : Bool) (m : ℕ) → n + cond t (suc m) m ≡ cond t (suc n) n + m
shifts n true m = omega arith
shifts n false m = refl

-- the Barrier of the rank that stands in its row
pub record IsBarrierOf (comm n : ℕ) (xs : List Entered) (b : Barrier) (x : Entered) : Type 0 where
  pub entered : Has xs x
  pub barrier : is_barrier x ≡ true
  pub on : eqb x.comm comm ≡ true
  pub call : x.call ≡ b.call
  pub before : n + entered_before comm x.call xs ≡ b.before

module _ (comm n : ℕ) (x : Entered) (xs : List Entered) (r : AreEntered (x ∷ xs)) (b : Barrier) (rest : (k : ℕ) → Has (barriers_on comm k xs) b → (y : Entered) × IsBarrierOf comm k xs b y) where
  barrier_behind : (k : ℕ) → k ≡ cond (eqb x.comm comm) (suc n) n → Has (barriers_on comm k xs) b → (y : Entered) × IsBarrierOf comm n (x ∷ xs) b y
  barrier_behind k e i =
      let w = rest k i in
      let p = w.1 in (
        w.0,
        record {
          entered = inr p.entered;
          barrier = p.barrier;
          on = p.on;
          call = p.call;
          before = ap (λ t. n + t) (next_place comm x xs r w.0 p.entered) ∙ shifts n (eqb x.comm comm) (entered_before comm w.0.call xs) ∙ ap (λ t. t + entered_before comm w.0.call xs) (sym e) ∙ p.before;
        },
      )

  barrier_here : (t : Bool) → is_barrier x ≡ t → eqb x.comm comm ≡ true → Has (cond t (barrier_at n x ∷ barriers_on comm (suc n) xs) (barriers_on comm (suc n) xs)) b → (y : Entered) × IsBarrierOf comm n (x ∷ xs) b y
  barrier_here true h o i =
      ⊎_elim
      (λ (e : b ≡ barrier_at n x).
      let z = first_place comm x xs r in
      let f : n + entered_before comm x.call (x ∷ xs) ≡ n = omega arith in
      (x, record { entered = inl refl; barrier = h; on = o; call = sym (ap (λ (p : Barrier). p.call) e); before = f ∙ sym (ap (λ (p : Barrier). p.before) e) }))
      (λ (j : Has (barriers_on comm (suc n) xs) b). barrier_behind (suc n) (sym (ap (λ t. cond t (suc n) n) o)) j) i
  barrier_here false h o i = barrier_behind (suc n) (sym (ap (λ t. cond t (suc n) n) o)) i

  barrier_on : (t : Bool) → eqb x.comm comm ≡ t → Has (cond t (cond (is_barrier x) (barrier_at n x ∷ barriers_on comm (suc n) xs) (barriers_on comm (suc n) xs)) (barriers_on comm n xs)) b →
      (y : Entered) × IsBarrierOf comm n (x ∷ xs) b y
  barrier_on true o i = barrier_here (is_barrier x) refl o i
  barrier_on false o i = barrier_behind n (sym (ap (λ t. cond t (suc n) n) o)) i

pub row_barrier : (comm n : ℕ) (xs : List Entered) → AreEntered xs → (b : Barrier) → Has (barriers_on comm n xs) b → (x : Entered) × IsBarrierOf comm n xs b x
row_barrier comm n [] r b i = absurd i
row_barrier comm n (x ∷ xs) r b i = barrier_on comm n x xs r b (λ k j. row_barrier comm k xs r.1 b j) (eqb x.comm comm) refl i

module _ (comm n : ℕ) (y : Entered) (ys : List Entered) where
  first_there : eqb y.comm comm ≡ true → is_barrier y ≡ true → Has (barriers_on comm n (y ∷ ys)) (barrier_at n y)
  first_there h g = rw (h, g) (inl refl)

  grown : (p : Barrier) → Has (barriers_on comm (suc n) ys) p → Has (cond (is_barrier y) (barrier_at n y ∷ barriers_on comm (suc n) ys) (barriers_on comm (suc n) ys)) p
  grown p j = elim (is_barrier y) as (λ t. Has (cond t (barrier_at n y ∷ barriers_on comm (suc n) ys) (barriers_on comm (suc n) ys)) p) [ true ↦ inr j | false ↦ j ]

  there_behind : (p : Barrier) (t : Bool) → eqb y.comm comm ≡ t → Has (barriers_on comm (cond t (suc n) n) ys) p → Has (barriers_on comm n (y ∷ ys)) p
  there_behind p true h j = rw h (grown p j)
  there_behind p false h j = rw h j

-- and each Barrier of the rank stands in the row
pub barrier_there : (comm n : ℕ) (xs : List Entered) → AreEntered xs → (x : Entered) → Has xs x → is_barrier x ≡ true → eqb x.comm comm ≡ true →
    Has (barriers_on comm n xs) (barrier_at (n + entered_before comm x.call xs) x)
barrier_there comm n [] r x i b o = absurd i
barrier_there comm n (y ∷ ys) r x i b o =
    ⊎_elim
    (λ (e : x ≡ y).
    let z = first_place comm y ys r in
    let at : n + entered_before comm y.call (y ∷ ys) ≡ n = omega arith in
    subst (λ (z : Entered). Has (barriers_on comm n (y ∷ ys)) (barrier_at (n + entered_before comm z.call (y ∷ ys)) z)) (sym e)
    (subst (λ k. Has (barriers_on comm n (y ∷ ys)) (barrier_at k y)) (sym at)
    (first_there comm n y ys (ap (λ (z : Entered). eqb z.comm comm) (sym e) ∙ o) (ap (λ (z : Entered). is_barrier z) (sym e) ∙ b))))
    (λ (j : Has ys x).
    let on = eqb y.comm comm in
    let k = cond on (suc n) n in
    let e : k + entered_before comm x.call ys ≡ n + entered_before comm x.call (y ∷ ys) =
    sym (ap (λ t. n + t) (next_place comm y ys r x j) ∙ shifts n on (entered_before comm x.call ys)) in
    subst (λ c. Has (barriers_on comm n (y ∷ ys)) (barrier_at c x)) e
    (there_behind comm n y ys (barrier_at (k + entered_before comm x.call ys) x) on refl (barrier_there comm k ys r.1 x j b o))) i

-- the Barriers of a row rise
pub barriers_rise : (comm n : ℕ) (xs : List Entered) → AreEntered xs → Rise (barriers_on comm n xs)
barriers_rise comm n [] r = tt
barriers_rise comm n (x ∷ xs) r =
    elim (eqb x.comm comm) as (λ t. Rise (cond t (cond (is_barrier x) (barrier_at n x ∷ barriers_on comm (suc n) xs) (barriers_on comm (suc n) xs)) (barriers_on comm n xs))) [
      | true ↦ elim (is_barrier x) as (λ t. Rise (cond t (barrier_at n x ∷ barriers_on comm (suc n) xs) (barriers_on comm (suc n) xs))) [
        | true ↦ (λ b i. next b (row_barrier comm (suc n) xs r.1 b i), barriers_rise comm (suc n) xs r.1)
        | false ↦ barriers_rise comm (suc n) xs r.1
      ]
      | false ↦ barriers_rise comm n xs r.1
    ]
  where
    next : (b : Barrier) → (y : Entered) × IsBarrierOf comm (suc n) xs b y → IsBarrierBefore (barrier_at n x) b
    next b w =
        let p = w.1 in
        let lt = later x xs r w.0 p.entered in
        let c = p.call in let k = p.before in
        record { call = omega arith; before = omega arith }

-- Of the Barriers before a call the last one has the most calls before it.
pub record IsLastBefore (call : ℕ) (bs : List Barrier) (k : ℕ) (b : Barrier) : Type 0 where
  pub there : Has bs b
  pub passed : ltb b.call call ≡ true
  pub before : b.before ≡ k
  pub most : (a : Barrier) → Has bs a → ltb a.call call ≡ true → a.before ≤ k

pub none_before : (call : ℕ) (bs : List Barrier) → Rise bs → last_before call bs ≡ None → (b : Barrier) → Has bs b → ltb b.call call ≡ false
none_before call [] r h b i = absurd i
none_before call (a ∷ bs) r h b i = by (ltb a.call call) refl h
  where
    by : (t : Bool) → ltb a.call call ≡ t → cond t (Some (unwrap_or (last_before call bs) a.before)) None ≡ None → ltb b.call call ≡ false
    by true e h = absurd (cc)
    by false e h = ⊎_elim (λ (d : b ≡ a). ap (λ (p : Barrier). ltb p.call call) d ∙ e) (λ j. let lt = (r.0 b j).call in grind (arith, nat_tests)) i

module _ (call : ℕ) (a : Barrier) (bs : List Barrier) (k : ℕ) (r : Rise (a ∷ bs)) where
  last_alone : ltb a.call call ≡ true → last_before call bs ≡ None → a.before ≡ k → (b : Barrier) × IsLastBefore call (a ∷ bs) k b
  last_alone e none is = (
    a,
    record {
      there = inl refl;
      passed = e;
      before = is;
      most = λ x i t. ⊎_elim
          (λ (d : x ≡ a). let f = ap (λ (p : Barrier). p.before) d in omega arith)
          (λ (j : Has bs x). let g = none_before call bs r.1 none x j in absurd (cc)) i;
    },
  )

  last_behind : (b : Barrier) → IsLastBefore call bs k b → ltb a.call call ≡ true → IsLastBefore call (a ∷ bs) k b
  last_behind b p e =
      let over = (r.0 b p.there).before in
      let q = p.before in
      record {
        there = inr p.there;
        passed = p.passed;
        before = q;
        most = λ x i t. ⊎_elim
            (λ (d : x ≡ a). let f = ap (λ (p : Barrier). p.before) d in omega arith)
            (λ (u : Has bs x). p.most x u t) i;
      }

  last_by : (o : Option ℕ) → ltb a.call call ≡ true → last_before call bs ≡ o → Some (unwrap_or o a.before) ≡ Some k → (last_before call bs ≡ Some k → (b : Barrier) × IsLastBefore call bs k b) →
      (b : Barrier) × IsLastBefore call (a ∷ bs) k b
  last_by None e o h rest = let same : a.before ≡ k = cc in last_alone e o same
  last_by (Some j) e o h rest = let same : last_before call bs ≡ Some k = o ∙ h in let w = rest same in (w.0, last_behind w.0 w.1 e)

  last_on : (t : Bool) → ltb a.call call ≡ t → cond t (Some (unwrap_or (last_before call bs) a.before)) None ≡ Some k → (last_before call bs ≡ Some k → (b : Barrier) × IsLastBefore call bs k b) →
      (b : Barrier) × IsLastBefore call (a ∷ bs) k b
  last_on true e h rest = last_by (last_before call bs) e refl h rest
  last_on false e h rest = absurd (cc)

pub last_is : (call : ℕ) (bs : List Barrier) (k : ℕ) → Rise bs → last_before call bs ≡ Some k → (b : Barrier) × IsLastBefore call bs k b
last_is call [] k r h = absurd (cc)
last_is call (a ∷ bs) k r h = last_on call a bs k r (ltb a.call call) refl h (λ g. last_is call bs k r.1 g)

same_both : (a b : Bool) → (a ≡ true → b ≡ true) → (b ≡ true → a ≡ true) → a ≡ b
same_both true b f g = sym (f refl)
same_both false true f g = g refl
same_both false false f g = refl

has_number : (xs : List ℕ) (x : ℕ) → list_any (λ c. eqb c x) xs ≡ true → Has xs x
has_number xs x h =
    let w = any_found (λ c. eqb c x) xs h in
    subst (λ z. Has xs z) (eqb-true w.0 x w.2) w.1

number_in : (xs : List ℕ) (x : ℕ) → Has xs x → list_any (λ c. eqb c x) xs ≡ true
number_in xs x i = let e : eqb x x ≡ true = grind (arith, nat_tests) in any_of (λ c. eqb c x) xs x i e

-- What the sender left, by the last Barriers alone: the receiver's rank entered behind call `ended` some Barrier that
-- the sender entered before the message, just where on some communicator of both it so entered the last of them.
module _ (s r : Ops) (m : Message) (e : ℕ) (sent : AreEntered s.rounds) (taken : AreEntered r.rounds) where
  -- the test of a Barrier, from its five parts
  left_at : (x : Entered) → is_barrier x ≡ true → ltb x.call m.name.call ≡ true → list_any (λ c. eqb c x.comm) s.comms ≡ true → list_any (λ c. eqb c x.comm) r.comms ≡ true →
      nat_le (entered_before x.comm e r.rounds) (entered_before x.comm x.call s.rounds) ≡ true → is_left s r m e x ≡ true
  left_at x a b c d f =
      let a1 = is_barrier x in let a2 = ltb x.call m.name.call in let a3 = list_any (λ c. eqb c x.comm) s.comms in let a4 = list_any (λ c. eqb c x.comm) r.comms in
      let a5 = nat_le (entered_before x.comm e r.rounds) (entered_before x.comm x.call s.rounds) in
      and_true (a1 && a2 && a3 && a4) a5 (and_true (a1 && a2 && a3) a4 (and_true (a1 && a2) a3 (and_true a1 a2 a b) c) d) f

  -- what was passed on a communicator, some Barrier was
  passed_is_left : (c : ℕ) → Has s.comms c → is_passed_in s.rounds r m.name.call e c ≡ true → list_any (is_left s r m e) s.rounds ≡ true
  passed_is_left c i h =
      let bs = barriers_on c 0 s.rounds in
      let p = both (list_any (λ z. eqb z c) r.comms) (is_met (last_before m.name.call bs) (calls_on c r.rounds) e) h in
      met (last_before m.name.call bs) refl p.0 p.1
    where
      at : (k : ℕ) (b : Barrier) (x : Entered) → IsLastBefore m.name.call (barriers_on c 0 s.rounds) k b → IsBarrierOf c 0 s.rounds b x → list_any (λ z. eqb z c) r.comms ≡ true →
          nat_le (entered_before c e r.rounds) k ≡ true → list_any (is_left s r m e) s.rounds ≡ true
      at k b x l w held few =
          let on : x.comm ≡ c = eqb-true x.comm c w.on in
          let before : ltb x.call m.name.call ≡ true = ap (λ n. ltb n m.name.call) w.call ∙ l.passed in
          let place : entered_before c x.call s.rounds ≡ k = (let f = w.before in let g = l.before in omega arith) in
          let few' : nat_le (entered_before c e r.rounds) (entered_before c x.call s.rounds) ≡ true = ap (λ n. nat_le (entered_before c e r.rounds) n) place ∙ few in
          any_of (is_left s r m e) s.rounds x w.entered (left_at x w.barrier before
          (subst (λ n. list_any (λ z. eqb z n) s.comms ≡ true) (sym on) (number_in s.comms c i))
          (subst (λ n. list_any (λ z. eqb z n) r.comms ≡ true) (sym on) held)
          (subst (λ n. nat_le (entered_before n e r.rounds) (entered_before n x.call s.rounds) ≡ true) (sym on) few'))

      met : (o : Option ℕ) → last_before m.name.call (barriers_on c 0 s.rounds) ≡ o → list_any (λ z. eqb z c) r.comms ≡ true → is_met o (calls_on c r.rounds) e ≡ true → list_any (is_left s r m e) s.rounds ≡ true
      met None is held h = absurd (cc)
      met (Some k) is held h =
          let l = last_is m.name.call (barriers_on c 0 s.rounds) k (barriers_rise c 0 s.rounds sent) is in
          let w = row_barrier c 0 s.rounds sent l.0 l.1.there in
          at k l.0 w.0 l.1 w.1 held (few_are_behind c e r.rounds k taken ∙ h)

  met_at : (x : Entered) → ltb x.call m.name.call ≡ true → nat_le (entered_before x.comm e r.rounds) (entered_before x.comm x.call s.rounds) ≡ true →
      Has (barriers_on x.comm 0 s.rounds) (barrier_at (entered_before x.comm x.call s.rounds) x) → (o : Option ℕ) → last_before m.name.call (barriers_on x.comm 0 s.rounds) ≡ o →
      is_met o (calls_on x.comm r.rounds) e ≡ true
  met_at x before few there None is =
      let no : ltb x.call m.name.call ≡ false = none_before m.name.call (barriers_on x.comm 0 s.rounds) (barriers_rise x.comm 0 s.rounds sent) is (barrier_at (entered_before x.comm x.call s.rounds) x) there in
      absurd (cc)
  met_at x before few there (Some k) is =
      let l = last_is m.name.call (barriers_on x.comm 0 s.rounds) k (barriers_rise x.comm 0 s.rounds sent) is in
      let le : entered_before x.comm x.call s.rounds ≤ k = l.1.most (barrier_at (entered_before x.comm x.call s.rounds) x) there before in
      let few' : nat_le (entered_before x.comm e r.rounds) k ≡ true = grind (arith, nat_tests) in
      sym (few_are_behind x.comm e r.rounds k taken) ∙ few'

  -- and where some Barrier was left, the last one on its communicator was
  left_is_passed : (x : Entered) → Has s.rounds x → is_left s r m e x ≡ true → list_any (is_passed_in s.rounds r m.name.call e) s.comms ≡ true
  left_is_passed x i h =
      let a1 = is_barrier x in let a2 = ltb x.call m.name.call in let a3 = list_any (λ c. eqb c x.comm) s.comms in let a4 = list_any (λ c. eqb c x.comm) r.comms in
      let a5 = nat_le (entered_before x.comm e r.rounds) (entered_before x.comm x.call s.rounds) in
      let p5 = both (a1 && a2 && a3 && a4) a5 h in
      let p4 = both (a1 && a2 && a3) a4 p5.0 in
      let p3 = both (a1 && a2) a3 p4.0 in
      let p2 = both a1 a2 p3.0 in
      let bs = barriers_on x.comm 0 s.rounds in
      let same : eqb x.comm x.comm ≡ true = grind (arith, nat_tests) in
      let there = subst (λ n. Has bs (barrier_at n x)) (zero-add (entered_before x.comm x.call s.rounds)) (barrier_there x.comm 0 s.rounds sent x i p2.0 same) in
      any_of (is_passed_in s.rounds r m.name.call e) s.comms x.comm (has_number s.comms x.comm p3.1)
      (and_true a4 (is_met (last_before m.name.call bs) (calls_on x.comm r.rounds) e) p4.1 (met_at x p2.1 p5.1 there (last_before m.name.call bs) refl))

  pub left_by_last : list_any (is_passed_in s.rounds r m.name.call e) s.comms ≡ list_any (is_left s r m e) s.rounds
  left_by_last = same_both _ _
      (λ h. let w = any_found (is_passed_in s.rounds r m.name.call e) s.comms h in passed_is_left w.0 w.1 w.2)
      (λ h. let w = any_found (is_left s r m e) s.rounds h in left_is_passed w.0 w.1 w.2)

among : {X : Type 0} (q p f : X → Bool) (xs : List X) → ((x : X) → f x ≡ (q x && p x)) → list_any p (filter q xs) ≡ list_any f xs
among q p f [] h = refl
among q p f (x ∷ xs) h =
    (elim (q x) as (λ b. list_any p (cond b (x ∷ filter q xs) (filter q xs)) ≡ ((b && p x) || list_any p (filter q xs))) [ true ↦ refl | false ↦ refl ])
    ∙ ap (λ t. t || list_any p (filter q xs)) (sym (h x)) ∙ ap (λ t. f x || t) (among q p f xs h)

-- the table of two ranks' ops
module _ (s r : Ops) (t u : RankReach) (sender : IsReachOf s t) (receiver : IsReachOf r u) where
  in_rows : (call e x : ℕ) → is_passed_in s.rounds r call e x ≡ (has_barrier (row_at t.rows x) && is_passed_on t u call e x)
  in_rows call e x =
      let bs = barriers_on x 0 s.rounds in
      by (list_any (λ c. eqb c x) r.comms) (calls_on x s.rounds) bs call e x
      ∙ sym (ap (λ (row : OnComm). has_barrier row && (holds u x && is_met (last_before call row.barriers) (row_at u.rows x).calls e)) (sender.rows x)
      ∙ ap (λ (row : OnComm). has_barrier (on_comm x s.rounds) && (holds u x && is_met (last_before call bs) row.calls e)) (receiver.rows x)
      ∙ ap (λ b. has_barrier (on_comm x s.rounds) && (b && is_met (last_before call bs) (calls_on x r.rounds) e)) (receiver.comms x))
    where
      by : (held : Bool) (cs : List ℕ) (bs : List Barrier) (call e x : ℕ) → (held && is_met (last_before call bs) (calls_on x r.rounds) e) ≡
          (has_barrier (record { calls = cs; barriers = bs }) && (held && is_met (last_before call bs) (calls_on x r.rounds) e))
      by true cs [] call e x = refl
      by true cs (b ∷ bs) call e x = refl
      by false cs [] call e x = refl
      by false cs (b ∷ bs) call e x = refl

  -- what the table answers
  pub left_by_table : (m : Message) (e : ℕ) → list_any (is_passed_on t u m.name.call e) t.barrier_comms.items ≡ list_any (is_left s r m e) s.rounds
  left_by_table m e =
      ap (λ (l : List ℕ). list_any (is_passed_on t u m.name.call e) l) sender.barrier_comms
      ∙ among (λ c. has_barrier (row_at t.rows c)) (is_passed_on t u m.name.call e) (is_passed_in s.rounds r m.name.call e) s.comms (in_rows m.name.call e)
      ∙ left_by_last s r m e sender.rounds_rise receiver.rounds_rise

-- the rows of a rank's table rise
pub rows_rise : (s : Ops) (t : RankReach) → IsReachOf s t → AreRowsRising t
rows_rise s t is c = subst (λ (row : OnComm). Rise row.barriers) (sym (is.rows c)) (barriers_rise c 0 s.rounds is.rounds_rise)

-- the parts of all ranks
reaches_push : (os : List Ops) (ts : List RankReach) (o : Ops) (t : RankReach) → AreReachesOf os ts → IsReachOf (communicating o) t → AreReachesOf (os ++ o ∷ []) (ts ++ t ∷ [])
reaches_push [] [] o t h k = (k, tt)
reaches_push [] (y ∷ ts) o t h k = absurd h
reaches_push (x ∷ os) [] o t h k = absurd h
reaches_push (x ∷ os) (y ∷ ts) o t h k = (h.0, reaches_push os ts o t h.1 k)

-- one rank more
pub reaches_more : (ts after : List RankReach) (os : List Ops) (i : ℕ) (o : Ops) (t : RankReach) → i < length os → o ≡ get_or os i o → after ≡ ts ++ t ∷ [] →
    AreReachesOf (take i os) ts → IsReachOf (communicating o) t → AreReachesOf (take (i + 1) os) after
reaches_more ts after os i o t lt at e h k =
    let grown : take (i + 1) os ≡ take i os ++ o ∷ [] = take_more os i o lt ∙ ap (λ (p : Ops). take i os ++ p ∷ []) (sym at) in
    subst (λ (l : List RankReach). AreReachesOf (take (i + 1) os) l) (sym e) (subst (λ (l : List Ops). AreReachesOf l (ts ++ t ∷ [])) (sym grown) (reaches_push (take i os) ts o t h k))

pub rounds_at : (os : List Ops) (first i : ℕ) (o : Ops) → i < length os → o ≡ get_or os i o → AreOwn first os → AreEntered o.rounds
rounds_at [] first i o lt e a = absurd (omega arith)
rounds_at (x ∷ os) first zero o lt e a = subst (λ (z : Ops). AreEntered z.rounds) (sym e) a.0.rounds_rise
rounds_at (x ∷ os) first (suc i) o lt e a = rounds_at os (first + 1) i o (omega arith) e a.1

pub reach_at : (os : List Ops) (ts : List RankReach) (i : ℕ) (t : RankReach) → AreReachesOf os ts → slice_get ts i ≡ Some t → IsReachOf (communicating (get_or os i no_ops)) t
reach_at [] [] i t h g = absurd (cc)
reach_at [] (y ∷ ts) i t h g = absurd h
reach_at (x ∷ os) [] i t h g = absurd h
reach_at (x ∷ os) (y ∷ ts) zero t h g = let e : y ≡ t = cc in subst (λ (z : RankReach). IsReachOf (communicating x) z) e h.0
reach_at (x ∷ os) (y ∷ ts) (suc i) t h g = reach_at os ts i t h.1 g

pub as_many : (os : List Ops) (ts : List RankReach) → AreReachesOf os ts → length os ≡ length ts
as_many [] [] h = refl
as_many [] (y ∷ ts) h = absurd h
as_many (x ∷ os) [] h = absurd h
as_many (x ∷ os) (y ∷ ts) h = ap (λ n. suc n) (as_many os ts h.1)

-- one rank's part is another
pub reach_set : (os : List Ops) (ts : List RankReach) (i : ℕ) (o : Ops) (t : RankReach) → AreReachesOf os ts → IsReachOf (communicating o) t → AreReachesOf (slice_set os i o) (slice_set ts i t)
reach_set [] [] i o t h k = tt
reach_set [] (y ∷ ts) i o t h k = absurd h
reach_set (x ∷ os) [] i o t h k = absurd h
reach_set (x ∷ os) (y ∷ ts) zero o t h k = (k, h.1)
reach_set (x ∷ os) (y ∷ ts) (suc i) o t h k = (h.0, reach_set os ts i o t h.1 k)

-- the answers of the table, rank by rank
module _ (os : List Ops) (ts : List RankReach) (of : AreReachesOf os ts) (m : Message) (at e : ℕ) (own : is_own m at e ≡ false) where
  pub no_sender : length ts ≤ m.from → false ≡ is_after (get_or os m.from no_ops) (get_or os at no_ops) m at (Some e)
  no_sender le =
      let past : length os ≤ m.from = let n = as_many os ts of in omega arith in
      let none = get_or_past os m.from no_ops past in
      sym (ap (λ (o : Ops). is_own m at e || list_any (is_left (communicating o) (communicating (get_or os at no_ops)) m e) (communications o.rounds)) none ∙ ap (λ b. b || false) own)

  pub none_there : length ts ≤ at → false ≡ is_after (get_or os m.from no_ops) (get_or os at no_ops) m at (Some e)
  none_there le = no_receiver os m at e (let n = as_many os ts of in omega arith) own

  pub by_table : (t u : RankReach) → slice_get ts m.from ≡ Some t → slice_get ts at ≡ Some u →
      list_any (is_passed_on t u m.name.call e) t.barrier_comms.items ≡ is_after (get_or os m.from no_ops) (get_or os at no_ops) m at (Some e)
  by_table t u h g =
      left_by_table (communicating (get_or os m.from no_ops)) (communicating (get_or os at no_ops)) t u (reach_at os ts m.from t of h) (reach_at os ts at u of g) m e
      ∙ ap (λ b. b || list_any (is_left (communicating (get_or os m.from no_ops)) (communicating (get_or os at no_ops)) m e) (communications (get_or os m.from no_ops).rounds)) (sym own)

drop_next : (xs : List ℕ) (i : ℕ) → i < length xs → drop i xs ≡ get_or xs i 0 ∷ drop (i + 1) xs
drop_next xs i lt = rw (add-one, drop-cons xs i 0)

pub any_here : (p : ℕ → Bool) (xs : List ℕ) (i : ℕ) → i < length xs → p (get_or xs i 0) ≡ true → list_any p (drop i xs) ≡ true
any_here p xs i lt h = ap (λ (l : List ℕ). list_any p l) (drop_next xs i lt) ∙ ap (λ t. t || list_any p (drop (i + 1) xs)) h

pub any_next : (p : ℕ → Bool) (xs : List ℕ) (i : ℕ) → i < length xs → p (get_or xs i 0) ≡ false → list_any p (drop (i + 1) xs) ≡ list_any p (drop i xs)
any_next p xs i lt h = sym (ap (λ (l : List ℕ). list_any p l) (drop_next xs i lt) ∙ ap (λ t. t || list_any p (drop (i + 1) xs)) h)
