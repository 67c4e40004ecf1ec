-- The first of the mismatched rounds in a row, looked for backwards.
use Rattle.std.proofs.Common.{◌≡◌, ℕ, zero, suc, ◌+◌, ◌-◌, Bool, true, false, ◌&&◌, Some, List, [], ◌∷◌, refl, sym, ◌∙◌, ap, arith}
use Rattle.std.specs.Prelude.{◌==◌, nat_lt, if◌then◌else◌}
use Rattle.std.proofs.lemmas.Bool.Decides.{nat_tests}
use Rattle.std.specs.BTreeMap.{BTreeMap, get}
use Rattle.trace_ops.specs.Ops.{AreOwn, Ops}
use Rattle.trace_ops.specs.Order.{AreEntered}
use Rattle.trace_wait.specs.declared.round.Round.{Round}
use Rattle.trace_wait.specs.Collectives.{first_in_row, is_mismatched_in}
use Rattle.trace_wait.specs.Patterns.{Place, place_cmp}
use Rattle.trace_wait.specs.Ranks.{ops_of}
use Rattle.trace_wait.specs.Sets.{AreFirsts, NotesFirst}

one_less : (k : ℕ) → suc k - 1 ≡ k
one_less k = omega arith

-- the test of a round with another before it
behind : (rounds : List Round) (c k : ℕ) → (nat_lt 0 (suc k) && is_mismatched_in rounds c (suc k - 1)) ≡ is_mismatched_in rounds c k
behind rounds c k =
    let above : nat_lt 0 (suc k) ≡ true = grind (arith, nat_tests) in
    ap (λ (b : Bool). b && is_mismatched_in rounds c (suc k - 1)) above ∙ ap (λ (n : ℕ). is_mismatched_in rounds c n) (one_less k)

-- the round before it is mismatched
pub one_back : (rounds : List Round) (c k : ℕ) → (nat_lt 0 k && is_mismatched_in rounds c (k - 1)) ≡ true → first_in_row rounds c k ≡ first_in_row rounds c (k - 1)
one_back rounds c zero h = refl
one_back rounds c (suc k) h =
    ap (λ (b : Bool). if b then first_in_row rounds c k else suc k) (sym (behind rounds c k) ∙ h) ∙ ap (λ (n : ℕ). first_in_row rounds c n) (sym (one_less k))

-- the row begins with it
pub at_first : (rounds : List Round) (c k : ℕ) → (nat_lt 0 k && is_mismatched_in rounds c (k - 1)) ≡ false → first_in_row rounds c k ≡ k
at_first rounds c zero h = refl
at_first rounds c (suc k) h = ap (λ (b : Bool). if b then first_in_row rounds c k else suc k) (sym (behind rounds c k) ∙ h)

both_equal : (a c k n : ℕ) → ((a == c) && (k == n)) ≡ true → (a ≡ c) × (k ≡ n)
both_equal a c k n h = (one a c (fst (a == c) (k == n) h), one k n (snd (a == c) (k == n) h))
  where
    one : (x y : ℕ) → (x == y) ≡ true → x ≡ y
    one x y e = grind (arith, nat_tests)

    fst : (p q : Bool) → (p && q) ≡ true → p ≡ true
    fst true q e = refl
    fst false q e = e

    snd : (p q : Bool) → (p && q) ≡ true → q ≡ true
    snd true q e = e
    snd false q e = absurd (cc)

-- one round more was noted
pub firsts_more : (rounds : List Round) (comm k first : ℕ) (old new : BTreeMap Place ℕ) → NotesFirst comm k first old new → first ≡ first_in_row rounds comm k → AreFirsts rounds old → AreFirsts rounds new
firsts_more rounds comm k first old new notes is before c n f h = by ((comm == c) && (k == n)) refl (sym (notes c n) ∙ h)
  where
    some : (x y : ℕ) → Some x ≡ Some y → x ≡ y
    some x y e = cc

    by : (b : Bool) → ((comm == c) && (k == n)) ≡ b → (if b then Some first else get place_cmp old (c, n)) ≡ Some f → f ≡ first_in_row rounds c n
    by true e g =
        let p = both_equal comm c k n e in
        sym (some first f g) ∙ is ∙ ap (λ (x : ℕ). first_in_row rounds x k) p.0 ∙ ap (λ (x : ℕ). first_in_row rounds c x) p.1
    by false e g = before c n f g

-- the calls of a rank stand in order
pub rounds_own : (first : ℕ) (ops : List Ops) (r : ℕ) → AreOwn first ops → AreEntered (ops_of ops r).rounds
rounds_own first [] r own = tt
rounds_own first (o ∷ ops) zero own = own.0.rounds_rise
rounds_own first (o ∷ ops) (suc r) own = rounds_own (first + 1) ops r own.1
