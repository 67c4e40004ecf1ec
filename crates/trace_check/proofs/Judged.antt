-- What the four tests of a verdict show.
use Rattle.std.proofs.Common.{◌≡◌, ◌∙◌, ◌≢◌, ◌&&◌, ◌||◌, ◌++◌, ℕ, Bool, true, false, Option, List, [], ◌∷◌, eqb, refl, sym, subst, ⊎_elim, ◌⊎◌, inl, inr}
use Rattle.std.specs.Prelude.{not}
use Rattle.std.specs.List.{AllPairs}
use Rattle.trace_ops.specs.declared.state.State.{State}
use Rattle.trace_stuck.specs.declared.condition.Condition.{Condition}
use Rattle.trace_stuck.specs.Laws.{CheckedVerdictsAreRight, StuckRanksAreClosed}
use Rattle.trace_stuck.specs.Release.{IsReleasedAfter, IsReleaseOrder, among, left}
use Rattle.trace_stuck.specs.States.{is_waiting}
use Rattle.trace_stuck.specs.Stuck.{IsClosed}
use Rattle.trace_check.specs.Right.{AreAllListed, IsRight}
use Rattle.trace_check.proofs.Lists.{test_equal}

pub same_bool : (a b : Bool) → (a ≡ true → b ≡ true) → (b ≡ true → a ≡ true) → a ≡ b
same_bool true true f g = refl
same_bool true false f g = sym (f refl)
same_bool false true f g = g refl
same_bool false false f g = refl

either : (a b : Bool) → (a || b) ≡ true → (a ≡ true) ⊎ (b ≡ true)
either true b h = inl refl
either false b h = inr h

or_left : (a b : Bool) → a ≡ true → (a || b) ≡ true
or_left a b h = rw h refl

or_right : (a b : Bool) → b ≡ true → (a || b) ≡ true
or_right true b h = refl
or_right false b h = h

listed : (a b : Bool) → (not a || b) ≡ true → a ≡ true → b ≡ true
listed true b h e = h
listed false b h e = absurd (cc e)

of_not : (a b : Bool) → (a ≡ true → b ≡ true) → (not a || b) ≡ true
of_not true b h = h refl
of_not false b h = refl

both_of : (a b : Bool) → a ≡ true → (b ≡ true → ⊥) → (a && not b) ≡ true
both_of a true e never = absurd (never refl)
both_of a false e never = rw e refl

first_of : (a b : Bool) → (a && not b) ≡ true → a ≡ true
first_of true b h = refl
first_of false b h = absurd (cc h)

second_of : (a b : Bool) → (a && not b) ≡ true → b ≡ true → ⊥
second_of true true h e = cc h
second_of true false h e = cc e
second_of false b h e = cc h

split : (a : Bool) → (a ≡ true) ⊎ (a ≡ false)
split true = inl refl
split false = inr refl

module _ (states : List State) (conditions : List (Option Condition)) where
  -- the ranks of a release order wait
  order_waits : (before ranks : List ℕ) (r : ℕ) → IsReleasedAfter states conditions before ranks → among ranks r ≡ true → is_waiting states r ≡ true
  order_waits before [] r order a = absurd (cc a)
  order_waits before (s ∷ ranks) r order a =
      ⊎_elim (λ (e : eqb s r ≡ true). subst (λ (t : ℕ). is_waiting states t ≡ true) (test_equal s r e) order.0)
      (λ (rest : among ranks r ≡ true). order_waits (before ++ s ∷ []) ranks r order.3 rest)
      (either (eqb s r) (among ranks r) a)

  -- the lists are together the waiting ranks
  together : (stuck release : List ℕ) → IsClosed states conditions (among stuck) → IsReleaseOrder states conditions release → AreAllListed states stuck release
      → (r : ℕ) → is_waiting states r ≡ (among stuck r || among release r)
  together stuck release closed order all r =
      same_bool (is_waiting states r) (among stuck r || among release r)
      (listed (is_waiting states r) (among stuck r || among release r) (all r))
      (λ h. ⊎_elim (λ (s : among stuck r ≡ true). (closed r s).0) (λ (a : among release r ≡ true). order_waits [] release r order a) (either (among stuck r) (among release r) h))

  pub judged_right : CheckedVerdictsAreRight → (stuck release : List ℕ) → AllPairs (λ r s. r ≢ s) stuck → IsClosed states conditions (among stuck)
      → IsReleaseOrder states conditions release
      → ((inside : ℕ → Bool) → IsClosed states conditions inside → (r : ℕ) → among release r ≡ true → inside r ≡ false)
      → AreAllListed states stuck release → IsRight states conditions stuck release
  judged_right law stuck release once closed order out all = record {
    lists = law states conditions stuck release closed order (together stuck release closed order all);
    once = once;
    order = order;
    others = λ r. same_bool (among stuck r) (left states release r)
        (λ s. both_of (is_waiting states r) (among release r) (closed r s).0 (λ a. let left_out = out (among stuck) closed r a in cc (s, left_out)))
        (λ l. ⊎_elim (λ (s : among stuck r ≡ true). s) (λ (a : among release r ≡ true). absurd (second_of (is_waiting states r) (among release r) l a))
        (either (among stuck r) (among release r) (listed (is_waiting states r) (among stuck r || among release r) (all r) (first_of (is_waiting states r) (among release r) l))));
  }

  pub right_closed : StuckRanksAreClosed → (stuck release : List ℕ) → IsRight states conditions stuck release → IsClosed states conditions (among stuck)
  right_closed law stuck release right = law states conditions (among stuck) right.lists

  pub right_listed : (stuck release : List ℕ) → IsRight states conditions stuck release → AreAllListed states stuck release
  right_listed stuck release right r =
      of_not (is_waiting states r) (among stuck r || among release r) (λ waits. ⊎_elim
      (λ (a : among release r ≡ true). or_right (among stuck r) (among release r) a)
      (λ (a : among release r ≡ false). or_left (among stuck r) (among release r) (right.others r ∙ both_of (is_waiting states r) (among release r) waits (λ b. cc (a, b))))
      (split (among release r)))
