-- What one more flag says.
use Rattle.std.proofs.Common.{Option, ◌≡◌, ℕ, zero, suc, ◌<◌, Bool, true, false, ◌&&◌, ◌||◌, List, [], ◌∷◌, ◌++◌, eqb, refl, sym, ◌∙◌, ap, arith, length, set}
use Rattle.std.specs.Prelude.{not}
use Rattle.std.proofs.lemmas.Bool.Decides.{nat_tests}
use Rattle.trace_ops.specs.declared.state.State.{State}
use Rattle.trace_stuck.specs.declared.condition.Condition.{Condition}
use Rattle.trace_stuck.specs.Queue.{down}
use Rattle.trace_stuck.specs.Queue.{flag, is_next}
use Rattle.trace_stuck.specs.States.{is_waiting, is_free}
use Rattle.trace_stuck.specs.Holds.{may_go}
use Rattle.trace_stuck.specs.Release.{among, IsReleaseOrder, left}
use Rattle.trace_stuck.proofs.Holds.{both}
use Rattle.trace_stuck.proofs.Orders.{goes_same, waiting_is, released_more, among_push}

pub flips_fewer : (xs : List Bool) (i : ℕ) → i < length xs → flag xs i ≡ false → down (set xs i true) < down xs
flips_fewer [] i lt h = absurd (omega arith)
flips_fewer (true ∷ xs) zero lt h = absurd (cc)
flips_fewer (false ∷ xs) zero lt h = omega arith
flips_fewer (true ∷ xs) (suc i) lt h = flips_fewer xs i (omega arith) h
flips_fewer (false ∷ xs) (suc i) lt h = omega (arith, flips_fewer xs i (omega arith) h)

or_true : (a : Bool) → (a || true) ≡ true
or_true true = refl
or_true false = refl

pub or_false : (a : Bool) → (a || false) ≡ a
or_false true = refl
or_false false = refl

or_same : (a b : Bool) → b ≡ false → a ≡ (a || b)
or_same a b h = rw h (sym (or_false a))

suc_eqb : (i r : ℕ) → eqb i r ≡ eqb (suc i) (suc r)
suc_eqb i r = grind (arith, nat_tests)

pub flag-set : (xs : List Bool) (i r : ℕ) → i < length xs → flag (set xs i true) r ≡ (flag xs r || eqb i r)
flag-set [] i r lt = absurd (omega arith)
flag-set (x ∷ xs) zero zero lt = sym (or_true x)
flag-set (x ∷ xs) zero (suc r) lt = or_same (flag xs r) (eqb zero (suc r)) (grind (arith, nat_tests))
flag-set (x ∷ xs) (suc i) zero lt = or_same x (eqb (suc i) zero) (grind (arith, nat_tests))
flag-set (x ∷ xs) (suc i) (suc r) lt = flag-set xs i r (omega arith) ∙ ap (λ b. flag xs r || b) (suc_eqb i r)

pub or_assoc : (a b c : Bool) → ((a || b) || c) ≡ (a || (b || c))
or_assoc true b c = refl
or_assoc false b c = refl

pub not_false : (a : Bool) → not a ≡ true → a ≡ false
not_false true h = absurd (cc)
not_false false h = refl

or_parts : (a b : Bool) → a ≡ false → b ≡ false → (a || b) ≡ false
or_parts a b h k = rw h k

pub last_false : (a b c : Bool) → a ≡ true → b ≡ false → (a && not b && c) ≡ false → c ≡ false
last_false true false c h k e = e
last_false false b c h k e = absurd (cc)
last_false true true c h k e = absurd (cc)

-- a rank that waits is in the list
pub waits_in : (states : List State) (r : ℕ) → is_waiting states r ≡ true → r < length states
waits_in [] r h = absurd (cc)
waits_in (s ∷ states) zero h = omega arith
waits_in (s ∷ states) (suc r) h = omega (arith, waits_in states r h)

module _ (states : List State) (conditions : List (Option Condition)) (able : List Bool) (release : List ℕ) (ties : (r : ℕ) → flag able r ≡ (is_free states r || among release r)) (order : IsReleaseOrder states conditions release) (q : ℕ) where
  pub able_more : q < length able → (r : ℕ) → flag (set able q true) r ≡ (is_free states r || among (release ++ q ∷ []) r)
  able_more lt r = flag-set able q r lt ∙ ap (λ b. b || eqb q r) (ties r) ∙ or_assoc (is_free states r) (among release r) (eqb q r) ∙ ap (λ b. is_free states r || b) (sym (among_push release q r))

  pub not_able : is_next states conditions able q ≡ true → flag able q ≡ false
  not_able h = not_false (flag able q) (both (is_waiting states q) (not (flag able q)) (both (is_waiting states q && not (flag able q)) (may_go conditions (flag able) q) h).0).1

  not_among : (a b : Bool) → (a || b) ≡ false → b ≡ false
  not_among true b h = absurd (cc)
  not_among false b h = h

  pub order_more : is_next states conditions able q ≡ true → IsReleaseOrder states conditions (release ++ q ∷ [])
  order_more h =
      let p = both (is_waiting states q && not (flag able q)) (may_go conditions (flag able) q) h in
      released_more states conditions [] release q order (both (is_waiting states q) (not (flag able q)) p.0).0
      (not_among (is_free states q) (among release q) (sym (ties q) ∙ not_able h))
      (sym (goes_same conditions (flag able) (λ s. is_free states s || among release s) q ties) ∙ p.1)

  -- what no rank is next for
  pub none_next : ((r : ℕ) → r < length states → is_next states conditions able r ≡ false) → (r : ℕ) → left states release r ≡ true → may_go conditions (λ s. is_free states s || among release s) r ≡ false
  none_next h r l =
      let p = both (is_waiting states r) (not (among release r)) l in
      let f : flag able r ≡ false = ties r ∙ or_parts (is_free states r) (among release r) (waiting_is states r p.0).0 (not_false (among release r) p.1) in
      sym (goes_same conditions (flag able) (λ s. is_free states s || among release s) r ties)
      ∙ last_false (is_waiting states r) (flag able r) (may_go conditions (flag able) r) p.0 f (h r (waits_in states r p.0))
