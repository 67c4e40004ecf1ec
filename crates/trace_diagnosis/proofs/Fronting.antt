-- The open receives of a rank before a call, and the messages that they may have taken.
use Rattle.std.proofs.Common.{◌≡◌, ◌∙◌, ◌+◌, ◌<◌, ◌≤◌, ℕ, zero, suc, Bool, true, false, ◌&&◌, ◌||◌, List, [], ◌∷◌, ◌++◌, Option, Some, append-nil, ap, arith, filter, get_or, inl, inr, length, refl, subst, sym, take, ⊎_elim}
use Rattle.std.specs.Prelude.{◌==◌, if◌then◌else◌, cond, nat_le, nat_lt, not, unwrap_or}
use Rattle.std.specs.BTreeMap.{BTreeMap, Updates, get}
use Rattle.std.specs.List.{list_all}
use Rattle.std.specs.List.Sorted.{IsNonDecreasingBy, IsPartitionPoint}
use Rattle.std.specs.Ordering.{is_eq}
use Rattle.std.proofs.lemmas.Bool.Decides.{nat_tests}
use Rattle.std.proofs.lemmas.List.{take_all, take_more}
use Rattle.std.proofs.lemmas.List.Elements.{filter-append}
use Rattle.std.proofs.lemmas.List.Folds.{list_all_at, list_all_more, list_any-append}
use Rattle.mpi_model.specs.declared.message.Message.{Message}
use Rattle.mpi_model.specs.declared.message.Receive.{Receive}
use Rattle.mpi_model.specs.Fit.{envelopes_fit}
use Rattle.mpi_model.specs.Trusts.{is_open}
use Rattle.trace_ops.specs.Ops.{AreOwn, Ops}
use Rattle.trace_ops.specs.Order.{ArePosted, Has}
use Rattle.trace_pair.specs.Ends.{AreLast, may_take}
use Rattle.trace_pair.specs.Pairing.{After}
use Rattle.trace_pair.specs.declared.ends.Ends.{Ends}
use Rattle.trace_wait.specs.Patterns.{Pattern, pattern_cmp}
use Rattle.trace_wait.specs.Ranks.{ops_of}
use Rattle.trace_diagnosis.specs.Listed.{Lists, listed, opened, passed_at}
use Rattle.trace_diagnosis.proofs.Naming.{pattern_one}

-- ---- the receives of a rank

-- They stand in order of their calls.
pub posted_at : (first : ℕ) (ops : List Ops) (r : ℕ) → AreOwn first ops → ArePosted (ops_of ops r).receives
posted_at first [] r own = tt
posted_at first (o ∷ ops) zero own = own.0.receives_rise
posted_at first (o ∷ ops) (suc r) own = posted_at (first + 1) ops r own.1

has_at : {X : Type 0} (xs : List X) (i : ℕ) (d : X) → i < length xs → Has xs (get_or xs i d)
has_at [] i d lt = absurd (omega arith)
has_at (x ∷ xs) zero d lt = inl refl
has_at (x ∷ xs) (suc i) d lt = inr (has_at xs i d (omega (arith, lt)))

under : (at b c p q : ℕ) (same : Bool) → (same && (nat_lt b c || ((b == c) && nat_lt p q))) ≡ true → b ≤ c
under at b c p q true h = grind (arith, nat_tests)
under at b c p q false h = absurd (cc)

-- calls that rise don't fall
pub calls_rise : (qs : List Receive) → ArePosted qs → IsNonDecreasingBy (λ q. q.name.call) qs
calls_rise [] up i j d le lt = absurd (omega arith)
calls_rise (q ∷ qs) up zero zero d le lt = omega arith
calls_rise (q ∷ qs) up zero (suc j) d le lt =
    let r = get_or qs j d in
    under 0 q.name.call r.name.call q.name.part r.name.part (q.at == r.at) (up.0 r (has_at qs j d (omega (arith, lt))))
calls_rise (q ∷ qs) up (suc i) zero d le lt = absurd (omega (arith, le))
calls_rise (q ∷ qs) up (suc i) (suc j) d le lt = calls_rise qs up.1 i j d (omega (arith, le)) (omega (arith, lt))

module _ {X : Type 0} (o p : X → Bool) where
  passed : (x : X) (rest all : List X) (a b : Bool) → b ≡ true → rest ≡ all → (if a then x ∷ rest else rest) ≡ (if a && b then x ∷ all else all)
  passed x rest all true true h e = ap (λ (l : List X). x ∷ l) e
  passed x rest all false true h e = e
  passed x rest all a false h e = absurd (cc)

  dropped : (x : X) (all : List X) (a b : Bool) → b ≡ false → [] ≡ all → [] ≡ (if a && b then x ∷ all else all)
  dropped x all true false h e = e
  dropped x all false false h e = e
  dropped x all a true h e = absurd (cc)

  -- what passes another test up to the place where one ends passes both
  pub up_to : (xs : List X) (n : ℕ) → n ≤ length xs → IsPartitionPoint (λ y. p y ≡ true) (λ y. p y ≡ false) xs n → filter o (take n xs) ≡ filter (λ x. o x && p x) xs
  up_to [] zero le point = refl
  up_to [] (suc n) le point = absurd (omega (arith, le))
  up_to (x ∷ xs) zero le point =
      dropped x (filter (λ x. o x && p x) xs) (o x) (p x) (point.1 0 x (omega arith) (omega arith))
      (up_to xs zero (omega arith) (λ k d from lt. absurd (omega (arith, lt)), λ k d from lt. point.1 (suc k) d (omega arith) (omega (arith, lt))))
  up_to (x ∷ xs) (suc n) le point =
      passed x (filter o (take n xs)) (filter (λ x. o x && p x) xs) (o x) (p x) (point.0 0 x (omega arith) (omega arith))
      (up_to xs n (omega (arith, le)) (λ k d from lt. point.0 (suc k) d (omega arith) (omega (arith, lt)), λ k d from lt. point.1 (suc k) d (omega (arith, from)) (omega (arith, lt))))

-- ---- one receive more

behind : {X : Type 0} (xs : List X) (y x : X) → Has (xs ++ y ∷ []) x → Has (y ∷ xs) x
behind [] y x i = i
behind (z ∷ xs) y x (inl e) = inr (inl e)
behind (z ∷ xs) y x (inr i) = ⊎_elim (λ (e : x ≡ y). inl e) (λ (j : Has xs x). inr (inr j)) (behind xs y x i)

before : {X : Type 0} (xs : List X) (y x : X) → Has (y ∷ xs) x → Has (xs ++ y ∷ []) x
before [] y x i = i
before (z ∷ xs) y x (inl e) = inr (before xs y x (inl e))
before (z ∷ xs) y x (inr i) = ⊎_elim (λ (e : x ≡ z). inl e) (λ (j : Has xs x). inr (before xs y x (inr j))) i

-- a receive that comes may stand behind the others as well as before them
last_behind : (xs : List Receive) (q : Receive) (ends : Ends) → AreLast (q ∷ xs) ends → AreLast (xs ++ q ∷ []) ends
last_behind xs q ends last = record {
  marked = λ u i. last.marked u (behind xs q u i);
  within = λ u i. last.within u (behind xs q u i);
  own = λ k e h. let w = last.own k e h in (w.0, before xs q w.0 w.1, w.2, w.3);
}

-- an open one comes to the ends, and another leaves them as they are
pub with_open : (xs : List Receive) (q : Receive) (ends : Ends) → is_open q ≡ true → AreLast (q ∷ xs) ends → AreLast (xs ++ filter is_open (q ∷ [])) ends
with_open xs q ends h last = subst (λ (b : Bool). AreLast (xs ++ (if b then q ∷ [] else [])) ends) (sym h) (last_behind xs q ends last)

pub without_other : (xs : List Receive) (q : Receive) (ends : Ends) → is_open q ≡ false → AreLast xs ends → AreLast (xs ++ filter is_open (q ∷ [])) ends
without_other xs q ends h last = subst (λ (b : Bool). AreLast (xs ++ (if b then q ∷ [] else [])) ends) (sym h) (subst (λ (l : List Receive). AreLast l ends) (sym (append-nil xs)) last)

pub opened_next : (qs : List Receive) (i : ℕ) (d : Receive) → i < length qs → opened qs i ++ filter is_open (get_or qs i d ∷ []) ≡ opened qs (i + 1)
opened_next qs i d lt = sym (ap (filter is_open) (take_more qs i d lt) ∙ filter-append is_open (take i qs) (get_or qs i d ∷ []))

-- ---- what was taken stays so

more_open : (xs : List Receive) (n k : ℕ) → n ≤ k → (rest : List Receive) × (opened xs k ≡ opened xs n ++ rest)
more_open xs zero k le = (opened xs k, refl)
more_open xs (suc n) zero le = absurd (omega (arith, le))
more_open [] (suc n) (suc k) le = ([], refl)
more_open (x ∷ xs) (suc n) (suc k) le = let w = more_open xs n k (omega (arith, le)) in (w.0, by (is_open x) w.0 w.1)
  where
    by : (b : Bool) (rest : List Receive) → opened xs k ≡ opened xs n ++ rest → (if b then x ∷ opened xs k else opened xs k) ≡ (if b then x ∷ opened xs n else opened xs n) ++ rest
    by true rest e = ap (λ (l : List Receive). x ∷ l) e
    by false rest e = e

taken_by_more : (after : After) (xs ys : List Receive) (m : Message) → may_take after xs m ≡ true → may_take after (xs ++ ys) m ≡ true
taken_by_more after xs ys m h =
    list_any-append (λ q. envelopes_fit m q && not (after m q)) xs ys ∙ ap (λ (b : Bool). b || may_take after ys m) h

all_taken : (p r : Message → Bool) → ((m : Message) → p m ≡ true → r m ≡ true) → (ms : List Message) → list_all p ms ≡ true → list_all r ms ≡ true
all_taken p r step [] h = refl
all_taken p r step (m ∷ ms) h = by (p m) refl h (all_taken p r step ms)
  where
    by : (b : Bool) → p m ≡ b → (b && list_all p ms) ≡ true → (list_all p ms ≡ true → list_all r ms ≡ true) → (r m && list_all r ms) ≡ true
    by true e all rest = ap (λ (c : Bool). c && list_all r ms) (step m e) ∙ rest all
    by false e all rest = absurd (cc)

-- What open receives before one place may have taken, those before a later one may have, too.
pub stay_taken : (after : After) (qs : List Receive) (n k : ℕ) (ms : List Message) → n ≤ k → list_all (may_take after (opened qs n)) ms ≡ true → list_all (may_take after (opened qs k)) ms ≡ true
stay_taken after qs n k ms le h =
    let w = more_open qs n k le in
    all_taken (may_take after (opened qs n)) (may_take after (opened qs k))
    (λ m t. ap (λ (l : List Receive). may_take after l m) w.1 ∙ taken_by_more after (opened qs n) w.0 m t) ms h

-- ---- the first message that is free

both_true : (a b : Bool) → a ≡ true → b ≡ true → (a && b) ≡ true
both_true a b h k = cc

pub one_taken : (p : Message → Bool) (ms : List Message) (i : ℕ) (d : Message) → i < length ms → list_all p (take i ms) ≡ true → p (get_or ms i d) ≡ true → list_all p (take (i + 1) ms) ≡ true
one_taken p ms i d lt h k = list_all_more p ms i d lt ∙ both_true (list_all p (take i ms)) (p (get_or ms i d)) h k

is_within : (a b : ℕ) → b < a → nat_le a b ≡ false
is_within a b lt = grind (arith, nat_tests)

is_behind : (a b : ℕ) → a ≤ b → nat_le a b ≡ true
is_behind a b le = grind (arith, nat_tests)

pub free_here : (p : Message → Bool) (ms : List Message) (i : ℕ) (d : Message) → i < length ms → list_all p (take i ms) ≡ true → p (get_or ms i d) ≡ false
    → (list_all p (take i ms) ≡ true) × (nat_le (length ms) i ≡ list_all p ms)
free_here p ms i d lt h free = (h, is_within (length ms) i lt ∙ sym (list_all_at p ms i d lt free))

pub free_nowhere : (p : Message → Bool) (ms : List Message) (i : ℕ) → length ms ≤ i → list_all p (take i ms) ≡ true → (list_all p (take i ms) ≡ true) × (nat_le (length ms) i ≡ list_all p ms)
free_nowhere p ms i le h = (h, is_behind (length ms) i le ∙ sym (sym (ap (list_all p) (take_all i ms le)) ∙ h))

-- ---- how many have been passed

module _ (taken : Message → Bool) (lists : Lists) where
  abbrev pub ArePassed : BTreeMap Pattern ℕ → Type 0
  ArePassed passed = (p : Pattern) → list_all taken (take (passed_at passed p) (listed lists p)) ≡ true

  -- under one pattern more have been passed
  pub passed_next : (old new : BTreeMap Pattern ℕ) (k : Pattern) (first : ℕ) → Updates pattern_cmp old new k (Some first) → ArePassed old → list_all taken (take first (listed lists k)) ≡ true → ArePassed new
  passed_next old new k first up were h p = subst (λ (o : Option ℕ). list_all taken (take (unwrap_or o 0) (listed lists p)) ≡ true) (sym (up.0 p)) (by (is_eq (pattern_cmp k p)) refl)
    where
      by : (b : Bool) → is_eq (pattern_cmp k p) ≡ b → list_all taken (take (unwrap_or (cond b (Some first) (get pattern_cmp old p)) 0) (listed lists p)) ≡ true
      by true e = subst (λ (q : Pattern). list_all taken (take first (listed lists q)) ≡ true) (pattern_one k p e) h
      by false e = were p
