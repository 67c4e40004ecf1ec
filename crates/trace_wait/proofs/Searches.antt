-- A search by halves in a list whose names rise finds what a search from its front would.
use Rattle.std.proofs.Common.{ap, ◌∙◌, ◌≡◌, ℕ, zero, suc, ◌+◌, ◌<◌, ◌≤◌, ◌⊎◌, inl, inr, ⊎_elim, Bool, true, false, ◌&&◌, List, [], ◌∷◌, Some, None, Result, Ok, Err, IfOk, IfErr, get_or, refl, sym, subst, arith, length}
use Rattle.std.specs.Prelude.{slice_get, ◌==◌, ◌||◌, cond, nat_lt, is_some, is_ok}
use Rattle.std.specs.declared.cmp.Ordering.{Ordering}
use Rattle.std.specs.declared.cmp.Ordering.TheVariants.{Less, Equal, Greater}
use Rattle.std.specs.Cmp.{IsTotalOrder}
use Rattle.std.specs.List.{find, list_any}
use Rattle.std.specs.List.Sorted.{IsSearchInRange, IsBinarySearchResult, IsSortedBy}
use Rattle.std.specs.Ordering.{nat_cmp, ordering_then, is_eq, is_lt}
use Rattle.std.proofs.lemmas.Cmp.{on_total, then_total, nat_cmp_total}
use Rattle.std.proofs.lemmas.Bool.Decides.{nat_tests}
use Rattle.std.proofs.lemmas.List.Sorted.{searchable_from_sorted}
use Rattle.mpi_model.specs.declared.event.OpName.{OpName}
use Rattle.mpi_model.specs.declared.message.Message.{Message}
use Rattle.mpi_model.specs.declared.message.Receive.{Receive}
use Rattle.trace_ops.specs.Ops.{Ops, AreOwn}
use Rattle.trace_ops.specs.Order.{Has, named_before, AreEntered, AreInOrder, ArePosted, AreCalledInOrder}
use Rattle.trace_wait.specs.Parts.{is_of}
use Rattle.trace_wait.proofs.Keys.{nat_same, place_same}

-- each name is before those after it
abbrev pub Rises : {X : Type 0} → (X → OpName) → List X → Type 0
Rises name [] = Unit {0}
Rises {X} name (x ∷ xs) = ((y : X) → Has xs y → named_before (name x) (name y) ≡ true) × Rises name xs

-- names of one rank by their calls, and then by their parts
abbrev pub name_cmp : OpName → OpName → Ordering
name_cmp a b = ordering_then (nat_cmp a.call b.call) (nat_cmp a.part b.part)

pub has_at : {X : Type 0} (xs : List X) (i : ℕ) (d : X) → i < length xs → Has xs (get_or xs i d)
has_at [] i d lt = absurd (omega arith)
has_at (x ∷ xs) zero d lt = inl refl
has_at (x ∷ xs) (suc i) d lt = inr (has_at xs i d (omega (arith, lt)))

-- what a search by halves answers
pub record Finds {X : Type 0} (p : X → Bool) (xs : List X) (r : Result ℕ ℕ) : Type 0 where
  pub found : IfOk r (λ at. slice_get xs at ≡ find p xs)
  pub absent : IfErr r (λ at. find p xs ≡ None)

split : (a b : ℕ) → (a < b) ⊎ (b ≤ a)
split a b = grind arith

-- ---- names in order

name_total : IsTotalOrder name_cmp
name_total = then_total (on_total (λ (a : OpName). a.call) nat_cmp_total) (on_total (λ (a : OpName). a.part) nat_cmp_total)

then_less : (a b : Ordering) → is_lt (ordering_then a b) ≡ (is_lt a || (is_eq a && is_lt b))
then_less Less b = refl
then_less Equal b = refl
then_less Greater b = refl

nat_less : (a b : ℕ) → is_lt (nat_cmp a b) ≡ nat_lt a b
nat_less a b = grind (arith, nat_tests)

joined : (l e m x y z : Bool) → l ≡ x → e ≡ y → m ≡ z → (l || (e && m)) ≡ (x || (y && z))
joined l e m x y z h k j = cc

not_behind : (a b c d : ℕ) → (nat_lt a c || ((a == c) && nat_lt b d)) ≡ true → (nat_lt c a || ((c == a) && nat_lt d b)) ≡ false
not_behind a b c d h = grind (arith, nat_tests)

-- what is before another isn't behind it
behind : (a b : OpName) → named_before a b ≡ true → is_lt (name_cmp b a) ≡ false
behind a b h =
    then_less (nat_cmp b.call a.call) (nat_cmp b.part a.part)
    ∙ joined _ _ _ _ _ _ (nat_less b.call a.call) (nat_same b.call a.call) (nat_less b.part a.part)
    ∙ not_behind a.call a.part b.call b.part h

not_both : (a b c d n p : ℕ) → (nat_lt a c || ((a == c) && nat_lt b d)) ≡ true → ((c == n) && (d == p)) ≡ true → ((a == n) && (b == p)) ≡ false
not_both a b c d n p h k = grind (arith, nat_tests)

-- what is before a name isn't that name
pub apart : (n a b : OpName) → named_before a b ≡ true → is_of n b ≡ true → is_of n a ≡ false
apart n a b h k = not_both a.call a.part b.call b.part n.call n.part h k

-- ---- the search

module _ {X : Type 0} (name : X → OpName) where
  in_order : (xs : List X) → Rises name xs → IsSortedBy (λ x y. is_lt (name_cmp (name x) (name y))) xs
  in_order [] up k d low lt = absurd (omega arith)
  in_order (x ∷ []) up k d low lt = absurd (omega arith)
  in_order (x ∷ y ∷ xs) up zero d low lt = behind (name x) (name y) (up.0 y (inl refl))
  in_order (x ∷ y ∷ xs) up (suc k) d low lt = let n : suc k + 1 ≡ suc (k + 1) = omega arith in rw n (in_order (y ∷ xs) up.1 k d (omega arith) (omega (arith, lt)))

  module _ (n : OpName) where
    found_at : (xs : List X) (i : ℕ) → Rises name xs → i < length xs → ((d : X) → is_of n (name (get_or xs i d)) ≡ true) → slice_get xs i ≡ find (λ y. is_of n (name y)) xs
    found_at [] i up lt h = absurd (omega arith)
    found_at (x ∷ xs) zero up lt h = first (is_of n (name x)) (h x)
      where
        first : (b : Bool) → b ≡ true → Some x ≡ cond b (Some x) (find (λ y. is_of n (name y)) xs)
        first true e = refl
        first false e = absurd (cc)
    found_at (x ∷ xs) (suc i) up lt h =
        let in_rest : i < length xs = omega (arith, lt) in
        let miss = apart n (name x) (name (get_or xs i x)) (up.0 (get_or xs i x) (has_at xs i x in_rest)) (h x) in
        subst (λ (b : Bool). slice_get xs i ≡ cond b (Some x) (find (λ y. is_of n (name y)) xs)) (sym miss) (found_at xs i up.1 in_rest h)

    none_at : (xs : List X) → ((k : ℕ) (d : X) → k < length xs → is_of n (name (get_or xs k d)) ≡ false) → find (λ y. is_of n (name y)) xs ≡ None
    none_at [] h = refl
    none_at (x ∷ xs) h =
        subst (λ (b : Bool). cond b (Some x) (find (λ y. is_of n (name y)) xs) ≡ None) (sym (h 0 x (omega arith))) (none_at xs (λ k d lt. h (suc k) d (omega (arith, lt))))

    -- an element has the name just where it compares as equal
    compared : (x : X) → is_of n (name x) ≡ is_eq (name_cmp (name x) n)
    compared x = sym (place_same ((name x).call, (name x).part) (n.call, n.part))

    pub searched : (xs : List X) → Rises name xs → (r : Result ℕ ℕ) → IsSearchInRange r (length xs) → IsBinarySearchResult (λ y. name_cmp (name y) n) xs r → Finds (λ y. is_of n (name y)) xs r
    searched xs up (Ok at) in_range equal = record { found = found_at xs at up in_range (λ d. compared _ ∙ ap is_eq (equal d)); absent = tt }
    searched xs up (Err at) in_range parted =
        let parts = parted (searchable_from_sorted name_total name xs n (in_order xs up)) in
        record {
          found = tt;
          absent = none_at xs (λ k d lt. ⊎_elim
              (λ (l : k < at). compared _ ∙ ap is_eq (parts.0 k d (omega arith) l))
              (λ (l : at ≤ k). compared _ ∙ ap is_eq (parts.1 k d l lt))
              (split k at));
        }

any_found : {X : Type 0} (p : X → Bool) (xs : List X) → is_some (find p xs) ≡ list_any p xs
any_found p [] = refl
any_found p (x ∷ xs) = by (p x) (any_found p xs)
  where
    by : (b : Bool) → is_some (find p xs) ≡ list_any p xs → is_some (cond b (Some x) (find p xs)) ≡ (b || list_any p xs)
    by true rest = refl
    by false rest = rest

is_there : {X : Type 0} (xs : List X) (i : ℕ) → i < length xs → is_some (slice_get xs i) ≡ true
is_there [] i lt = absurd (omega arith)
is_there (x ∷ xs) zero lt = refl
is_there (x ∷ xs) (suc i) lt = is_there xs i (omega (arith, lt))

-- whether a search by halves finds something
pub found_any : {X : Type 0} (p : X → Bool) (xs : List X) (r : Result ℕ ℕ) → IsSearchInRange r (length xs) → Finds p xs r → is_ok r ≡ list_any p xs
found_any p xs (Ok at) in_range finds = sym (is_there xs at in_range) ∙ ap is_some finds.found ∙ any_found p xs
found_any p xs (Err at) in_range finds = sym (ap is_some finds.absent) ∙ any_found p xs

both : (a b : Bool) → (a && b) ≡ true → (a ≡ true) × (b ≡ true)
both true b h = (refl, h)
both false b h = absurd (cc)

pub sends_rise : (ms : List Message) → AreInOrder ms → Rises (λ m. m.name) ms
sends_rise [] o = tt
sends_rise (m ∷ ms) o = (λ x i. (both _ _ (o.0 x i)).1, sends_rise ms o.1)

pub receives_rise : (qs : List Receive) → ArePosted qs → Rises (λ q. q.name) qs
receives_rise [] o = tt
receives_rise (q ∷ qs) o = (λ x i. (both _ _ (o.0 x i)).1, receives_rise qs o.1)

pub names_rise : (names : List OpName) → AreCalledInOrder names → Rises (λ a. a) names
names_rise [] o = tt
names_rise (a ∷ names) o = (λ x i. (both _ _ (o.0 x i)).1, names_rise names o.1)

-- the operations of a rank stand in order of their calls
pub record StandInOrder (o : Ops) : Type 0 where
  pub sends : AreInOrder o.sends
  pub receives : ArePosted o.receives
  pub cancelled : AreCalledInOrder o.cancelled
  pub rounds : AreEntered o.rounds

pub own_at : (first : ℕ) (ops : List Ops) (i : ℕ) (d : Ops) → AreOwn first ops → i < length ops → StandInOrder (get_or ops i d)
own_at first [] i d own lt = absurd (omega arith)
own_at first (o ∷ ops) zero d own lt = record { sends = own.0.sends_rise; receives = own.0.receives_rise; cancelled = own.0.cancelled_rise; rounds = own.0.rounds_rise }
own_at first (o ∷ ops) (suc i) d own lt = own_at (first + 1) ops i d own.1 (omega (arith, lt))
