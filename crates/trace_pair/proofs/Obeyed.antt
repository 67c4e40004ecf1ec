-- The pairs are those of the five rules, whatever bound the recursion starts from.
use Rattle.std.proofs.Common.{◌≡◌, ℕ, zero, suc, ◌+◌, ◌<◌, ◌≤◌, Bool, true, false, ◌&&◌, ◌||◌, ◌⊎◌, List, [], ◌∷◌, inl, inr, ⊎_elim, sym, refl, ◌∙◌, ap, arith, ltb, eqb}
use Rattle.std.specs.Prelude.{not, is_some}
use Rattle.std.specs.List.{list_any, list_all}
use Rattle.std.proofs.lemmas.Bool.Decides.{nat_tests}
use Rattle.mpi_model.specs.declared.event.OpName.{OpName}
use Rattle.mpi_model.specs.declared.message.Message.{Message}
use Rattle.mpi_model.specs.declared.message.Receive.{Receive}
use Rattle.mpi_model.specs.Fit.{fits}
use Rattle.trace_ops.specs.Order.{sent_before, posted_before, Has}
use Rattle.trace_pair.specs.Places.{sent_no_later, posted_no_later}
use Rattle.trace_pair.specs.Places.{sent_at, posted_at, earlier, together}
use Rattle.trace_pair.specs.Pairing.{After, obeys, paired_below, paired, Obeys, Paired}
use Rattle.mpi_model.specs.Trusts.{is_sure, is_open, is_settled}

pub any_same : {X : Type 0} (p t : X → Bool) (xs : List X) → ((x : X) → Has xs x → p x ≡ t x) → list_any p xs ≡ list_any t xs
any_same p t [] h = refl
any_same p t (x ∷ xs) h = let e = h x (inl refl) in let f = any_same p t xs (λ y i. h y (inr i)) in cc

pub all_same : {X : Type 0} (p t : X → Bool) (xs : List X) → ((x : X) → Has xs x → p x ≡ t x) → list_all p xs ≡ list_all t xs
all_same p t [] h = refl
all_same p t (x ∷ xs) h = let e = h x (inl refl) in let f = all_same p t xs (λ y i. h y (inr i)) in cc

pub any_found : {X : Type 0} (p : X → Bool) (xs : List X) → list_any p xs ≡ true → (x : X) × Has xs x × (p x ≡ true)
any_found {X = X} p [] h = absurd (cc)
any_found {X = X} p (x ∷ xs) h =
    elim (p x) as (λ b. p x ≡ b → (b || list_any p xs) ≡ true → (y : X) × Has (x ∷ xs) y × (p y ≡ true)) [
      | true ↦ λ e _. (x, inl refl, e)
      | false ↦ λ e g. let r = any_found p xs g in (r.0, inr r.1, r.2)
    ] refl h

pub any_of : {X : Type 0} (p : X → Bool) (xs : List X) (x : X) → Has xs x → p x ≡ true → list_any p xs ≡ true
any_of p [] x i h = absurd i
any_of p (y ∷ ys) x i h =
    ⊎_elim (λ (e : x ≡ y). let e' = ap p e in rw (sym e' ∙ h) refl) (λ j. let e = any_of p ys x j h in elim (p y) as (λ b. (b || list_any p ys) ≡ true) [ true ↦ refl | false ↦ e ]) i

-- some element passes the test, or none does
pub any_or_none : {X : Type 0} (p : X → Bool) (xs : List X) → ((x : X) × Has xs x × (p x ≡ true)) ⊎ ((x : X) → Has xs x → p x ≡ true → ⊥)
any_or_none {X = X} p xs =
    elim (list_any p xs) as (λ b. list_any p xs ≡ b → ((x : X) × Has xs x × (p x ≡ true)) ⊎ ((x : X) → Has xs x → p x ≡ true → ⊥)) [
      | true ↦ λ e. inl (any_found p xs e)
      | false ↦ λ e. inr (λ x i h. let g = any_of p xs x i h in cc)
    ] refl

pub all_at : {X : Type 0} (p : X → Bool) (xs : List X) (x : X) → list_all p xs ≡ true → Has xs x → p x ≡ true
all_at p [] x h i = absurd i
all_at p (y ∷ ys) x h i =
    elim (p y) as (λ b. p y ≡ b → (b && list_all p ys) ≡ true → p x ≡ true) [
      | true ↦ λ e g. ⊎_elim (λ (d : x ≡ y). ap p d ∙ e) (λ j. all_at p ys x g j) i
      | false ↦ λ e g. absurd (cc)
    ] refl h

pub all_of : {X : Type 0} (p : X → Bool) (xs : List X) → ((x : X) → Has xs x → p x ≡ true) → list_all p xs ≡ true
all_of p [] h = refl
all_of p (y ∷ ys) h = let e = h y (inl refl) in let f = all_of p ys (λ x i. h x (inr i)) in rw e f

-- from a test of two parts
pub both : (a b : Bool) → (a && b) ≡ true → (a ≡ true) × (b ≡ true)
both true b h = (refl, h)
both false b h = absurd (cc)

pub and_true : (a b : Bool) → a ≡ true → b ≡ true → (a && b) ≡ true
and_true a b h k = rw h k

pub not_true : (a : Bool) → (a ≡ true → ⊥) → not a ≡ true
not_true true h = absurd (h refl)
not_true false h = refl

pub not_true-elim : (a : Bool) → not a ≡ true → a ≡ true → ⊥
not_true-elim true h k = cc
not_true-elim false h k = cc

pub unless_not : (a : Bool) → (not a ≡ true → ⊥) → a ≡ true
unless_not true h = refl
unless_not false h = absurd (h refl)

-- "where a holds, b does"
pub if_then : (a b : Bool) → (a ≡ true → b ≡ true) → (not a || b) ≡ true
if_then true b h = h refl
if_then false b h = refl

pub if_then-elim : (a b : Bool) → (not a || b) ≡ true → a ≡ true → b ≡ true
if_then-elim true b h k = h
if_then-elim false b h k = cc

same_and : (a b c : Bool) → (a ≡ true → b ≡ c) → (a && b) ≡ (a && c)
same_and true b c h = h refl
same_and false b c h = refl

same_if_then : (a b c : Bool) → (a ≡ true → b ≡ c) → (not a || b) ≡ (not a || c)
same_if_then true b c h = h refl
same_if_then false b c h = refl

pub either : (a b : Bool) → (a || b) ≡ true → (a ≡ true) ⊎ (b ≡ true)
either true b h = inl refl
either false b h = inr h

pub or_left : (a b : Bool) → a ≡ true → (a || b) ≡ true
or_left a b h = rw h refl

pub or_right : (a b : Bool) → b ≡ true → (a || b) ≡ true
or_right true b h = refl
or_right false b h = h

pub before_lt : (m n : Message) → sent_before n m ≡ true → n.name.call < m.name.call
before_lt m n h = let p = (both (eqb n.from m.from) (ltb n.name.call m.name.call) h).1 in grind (arith, nat_tests)

pub posted_lt : (q r : Receive) → posted_before r q ≡ true → r.name.call < q.name.call
posted_lt q r h = let p = (both (eqb r.at q.at) (ltb r.name.call q.name.call) h).1 in grind (arith, nat_tests)

earlier_le : (a b : OpName) → earlier a b ≡ true → a.call ≤ b.call
earlier_le a b h = let p = (both (eqb a.rank b.rank) (ltb a.call b.call) h).1 in grind (arith, nat_tests)

together_le : (a b : OpName) → together a b ≡ true → a.call ≤ b.call
together_le a b h = let p = (both (eqb a.rank b.rank) (eqb a.call b.call) (both (eqb a.rank b.rank && eqb a.call b.call) (not (eqb a.part b.part)) h).0).1 in grind (arith, nat_tests)

no_later_le : (a b : OpName) → (earlier a b || together a b) ≡ true → a.call ≤ b.call
no_later_le a b h = ⊎_elim (λ (x : earlier a b ≡ true). earlier_le a b x) (λ (x : together a b ≡ true). together_le a b x) (either (earlier a b) (together a b) h)

pub sent_le : (m n : Message) → sent_no_later n m ≡ true → n.name.call ≤ m.name.call
sent_le m n h = no_later_le (sent_at n) (sent_at m) h

pub posted_le : (q r : Receive) → posted_no_later r q ≡ true → r.name.call ≤ q.name.call
posted_le q r h = no_later_le (posted_at r) (posted_at q) h

pub sent_earlier : (m n : Message) → sent_before n m ≡ true → sent_no_later n m ≡ true
sent_earlier m n h = or_left (earlier (sent_at n) (sent_at m)) (together (sent_at n) (sent_at m)) h

pub posted_earlier : (q r : Receive) → posted_before r q ≡ true → posted_no_later r q ≡ true
posted_earlier q r h = or_left (earlier (posted_at r) (posted_at q)) (together (posted_at r) (posted_at q)) h

-- The rules look at couples alone of which one call is earlier, and the other no later.
abbrev pub Looks : Message → Receive → Message → Receive → Type 0
Looks m q n r = ((sent_no_later n m ≡ true) × (posted_before r q ≡ true)) ⊎ ((sent_before n m ≡ true) × (posted_no_later r q ≡ true))

pub obeys_same : (after : After) (ms : List Message) (qs : List Receive) (R S : Message → Receive → Bool) (m : Message) (q : Receive) → ((n : Message) (r : Receive) → Has ms n → Has qs r → Looks m q n r → R n r ≡ S n r) → obeys after ms qs R m q ≡ obeys after ms qs S m q
unfolding obeys
obeys_same after ms qs R S m q h =
    let e4 = all_same
    (λ n. not (sent_no_later n m && fits n q) || list_any (λ r. posted_before r q && R n r) qs)
    (λ n. not (sent_no_later n m && fits n q) || list_any (λ r. posted_before r q && S n r) qs)
    ms (λ n i. same_if_then (sent_no_later n m && fits n q) _ _ (λ b. any_same
    (λ r. posted_before r q && R n r) (λ r. posted_before r q && S n r) qs
    (λ r j. same_and (posted_before r q) _ _ (λ pb. h n r i j (inl ((both (sent_no_later n m) (fits n q) b).0, pb)))))) in
    let e5 = all_same
    (λ r. not (is_settled r && posted_no_later r q && fits m r) || list_any (λ n. sent_before n m && R n r) ms)
    (λ r. not (is_settled r && posted_no_later r q && fits m r) || list_any (λ n. sent_before n m && S n r) ms)
    qs (λ r j. same_if_then (is_settled r && posted_no_later r q && fits m r) _ _ (λ b. any_same
    (λ n. sent_before n m && R n r) (λ n. sent_before n m && S n r) ms
    (λ n i. same_and (sent_before n m) _ _ (λ sb. h n r i j (inr (sb, (both (is_settled r) (posted_no_later r q) (both (is_settled r && posted_no_later r q) (fits m r) b).0).1)))))) in
    rw (e4, e5) refl

-- their call numbers add up to less
looks_less : (m n : Message) (q r : Receive) → Looks m q n r → n.name.call + r.name.call < m.name.call + q.name.call
looks_less m n q r l =
    ⊎_elim
    (λ (x : (sent_no_later n m ≡ true) × (posted_before r q ≡ true)). let a = sent_le m n x.0 in let b = posted_lt q r x.1 in omega arith)
    (λ (x : (sent_before n m ≡ true) × (posted_no_later r q ≡ true)). let a = before_lt m n x.0 in let b = posted_le q r x.1 in omega arith) l

-- any two bounds above the sum give the same answer
pub bounds_same : (k j : ℕ) (after : After) (ms : List Message) (qs : List Receive) (m : Message) (q : Receive) → m.name.call + q.name.call < k → m.name.call + q.name.call < j → paired_below k after ms qs m q ≡ paired_below j after ms qs m q
unfolding paired_below
bounds_same zero j after ms qs m q h g = absurd (omega arith)
bounds_same (suc k) zero after ms qs m q h g = absurd (omega arith)
bounds_same (suc k) (suc j) after ms qs m q h g =
    obeys_same after ms qs (paired_below k after ms qs) (paired_below j after ms qs) m q (λ n r _ _ l. let lt = looks_less m n q r l in
    bounds_same k j after ms qs n r (omega arith) (omega arith))

-- the pairs obey the rules
pub paired_obeys : (after : After) (ms : List Message) (qs : List Receive) (m : Message) (q : Receive) → paired after ms qs m q ≡ obeys after ms qs (paired after ms qs) m q
unfolding paired paired_below
paired_obeys after ms qs m q =
    obeys_same after ms qs (paired_below (m.name.call + q.name.call) after ms qs) (paired after ms qs) m q (λ n r _ _ l. let lt = looks_less m n q r l in
    bounds_same (m.name.call + q.name.call) (suc (n.name.call + r.name.call)) after ms qs n r (omega arith) (omega arith))

-- the rules as facts
pub Obeys-from : (after : After) (ms : List Message) (qs : List Receive) (R : Message → Receive → Bool) (m : Message) (q : Receive) → obeys after ms qs R m q ≡ true → Obeys after ms qs (λ n r. R n r ≡ true) m q
unfolding obeys
Obeys-from after ms qs R m q h =
    let a1 = is_settled q in let a2 = is_sure m.trust in let a3 = fits m q in
    let a4 = not (list_any (λ u. is_open u && posted_no_later u q && fits m u && not (after m u)) qs) in
    let a5 = list_all (λ n. not (sent_no_later n m && fits n q) || list_any (λ r. posted_before r q && R n r) qs) ms in
    let a6 = list_all (λ r. not (is_settled r && posted_no_later r q && fits m r) || list_any (λ n. sent_before n m && R n r) ms) qs in
    let h6 = both (a1 && a2 && a3 && a4 && a5) a6 h in
    let h5 = both (a1 && a2 && a3 && a4) a5 h6.0 in
    let h4 = both (a1 && a2 && a3) a4 h5.0 in
    let h3 = both (a1 && a2) a3 h4.0 in
    let h2 = both a1 a2 h3.0 in
    let h1 = both (is_some q.source) (is_sure q.trust) h2.0 in
    record {
      told = h1.0;
      sure_receive = h1.1;
      sure_message = h2.1;
      fit = h3.1;
      no_open = λ u i n p f. unless_not (after m u) (λ g. not_true-elim _ h4.1 (any_of (λ u. is_open u && posted_no_later u q && fits m u && not (after m u)) qs u i (and_true (is_open u && posted_no_later u q && fits m u) (not (after m u)) (and_true (is_open u && posted_no_later u q) (fits m u) (and_true (is_open u) (posted_no_later u q) n p) f) g)));
      messages = λ n i s f.
          let g = if_then-elim (sent_no_later n m && fits n q) _ (all_at (λ n. not (sent_no_later n m && fits n q) || list_any (λ r. posted_before r q && R n r) qs) ms n h5.1 i) (and_true (sent_no_later n m) (fits n q) s f) in
          let w = any_found (λ r. posted_before r q && R n r) qs g in
          let p = both (posted_before w.0 q) (R n w.0) w.2 in
          (w.0, w.1, p.0, p.1);
      receives = λ r i t p f.
          let g = if_then-elim (is_settled r && posted_no_later r q && fits m r) _ (all_at (λ r. not (is_settled r && posted_no_later r q && fits m r) || list_any (λ n. sent_before n m && R n r) ms) qs r h6.1 i) (and_true (is_settled r && posted_no_later r q) (fits m r) (and_true (is_settled r) (posted_no_later r q) t p) f) in
          let w = any_found (λ n. sent_before n m && R n r) ms g in
          let p = both (sent_before w.0 m) (R w.0 r) w.2 in
          (w.0, w.1, p.0, p.1);
    }

pub obeys-from : (after : After) (ms : List Message) (qs : List Receive) (R : Message → Receive → Bool) (m : Message) (q : Receive) → Obeys after ms qs (λ n r. R n r ≡ true) m q → obeys after ms qs R m q ≡ true
unfolding obeys
obeys-from after ms qs R m q o =
    let a1 = is_settled q in let a2 = is_sure m.trust in let a3 = fits m q in
    let a4 = not (list_any (λ u. is_open u && posted_no_later u q && fits m u && not (after m u)) qs) in
    let a5 = list_all (λ n. not (sent_no_later n m && fits n q) || list_any (λ r. posted_before r q && R n r) qs) ms in
    let a6 = list_all (λ r. not (is_settled r && posted_no_later r q && fits m r) || list_any (λ n. sent_before n m && R n r) ms) qs in
    and_true (a1 && a2 && a3 && a4 && a5) a6
    (and_true (a1 && a2 && a3 && a4) a5
    (and_true (a1 && a2 && a3) a4 (and_true (a1 && a2) a3 (and_true a1 a2 (and_true (is_some q.source) (is_sure q.trust) o.told o.sure_receive) o.sure_message) o.fit)
    (not_true (list_any (λ u. is_open u && posted_no_later u q && fits m u && not (after m u)) qs) (λ h.
    let w = any_found (λ u. is_open u && posted_no_later u q && fits m u && not (after m u)) qs h in
    let p'' = both (is_open w.0 && posted_no_later w.0 q && fits m w.0) (not (after m w.0)) w.2 in
    let p = both (is_open w.0 && posted_no_later w.0 q) (fits m w.0) p''.0 in
    let p' = both (is_open w.0) (posted_no_later w.0 q) p.0 in
    not_true-elim (after m w.0) p''.1 (o.no_open w.0 w.1 p'.0 p'.1 p.1))))
    (all_of (λ n. not (sent_no_later n m && fits n q) || list_any (λ r. posted_before r q && R n r) qs) ms (λ n i. if_then (sent_no_later n m && fits n q) _ (λ b.
    let p = both (sent_no_later n m) (fits n q) b in
    let w = o.messages n i p.0 p.1 in
    any_of (λ r. posted_before r q && R n r) qs w.0 w.1 (and_true (posted_before w.0 q) (R n w.0) w.2 w.3)))))
    (all_of (λ r. not (is_settled r && posted_no_later r q && fits m r) || list_any (λ n. sent_before n m && R n r) ms) qs (λ r i. if_then (is_settled r && posted_no_later r q && fits m r) _ (λ b.
    let p = both (is_settled r && posted_no_later r q) (fits m r) b in
    let p' = both (is_settled r) (posted_no_later r q) p.0 in
    let w = o.receives r i p'.0 p'.1 p.1 in
    any_of (λ n. sent_before n m && R n r) ms w.0 w.1 (and_true (sent_before w.0 m) (R w.0 r) w.2 w.3))))

-- a pair obeys the five rules, and what obeys them is a pair
pub pair_obeys : (after : After) (ms : List Message) (qs : List Receive) (m : Message) (q : Receive) → Paired after ms qs m q → Obeys after ms qs (Paired after ms qs) m q
pair_obeys after ms qs m q h = Obeys-from after ms qs (paired after ms qs) m q (sym (paired_obeys after ms qs m q) ∙ h)

pub obeys_paired : (after : After) (ms : List Message) (qs : List Receive) (m : Message) (q : Receive) → Obeys after ms qs (Paired after ms qs) m q → Paired after ms qs m q
obeys_paired after ms qs m q o = paired_obeys after ms qs m q ∙ obeys-from after ms qs (paired after ms qs) m q o

-- No other relation obeys them.
only_below : (k : ℕ) (after : After) (ms : List Message) (qs : List Receive) (R : Message → Receive → Bool) → ((m : Message) (q : Receive) → Has ms m → Has qs q → R m q ≡ obeys after ms qs R m q) → (m : Message) (q : Receive) → m.name.call + q.name.call < k → Has ms m → Has qs q → R m q ≡ paired after ms qs m q
only_below zero after ms qs R h m q lt i j = absurd (omega arith)
only_below (suc k) after ms qs R h m q lt i j =
    h m q i j ∙ obeys_same after ms qs R (paired after ms qs) m q (λ n r i' j' l. let less = looks_less m n q r l in
    only_below k after ms qs R h n r (omega arith) i' j') ∙ sym (paired_obeys after ms qs m q)

pub only_paired : (after : After) (ms : List Message) (qs : List Receive) (R : Message → Receive → Bool) → ((m : Message) (q : Receive) → Has ms m → Has qs q → R m q ≡ obeys after ms qs R m q) → (m : Message) (q : Receive) → Has ms m → Has qs q → R m q ≡ paired after ms qs m q
only_paired after ms qs R h m q i j = only_below (suc (m.name.call + q.name.call)) after ms qs R h m q (omega arith) i j
