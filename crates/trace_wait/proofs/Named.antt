-- What a rank did is found by its name.
use Rattle.std.proofs.Common.{◌≡◌, ◌∙◌, ℕ, zero, suc, ◌+◌, ◌++◌, ◌⊎◌, Bool, true, false, List, [], ◌∷◌, Some, inl, inr, ⊎_elim, ap, arith, cond, subst, sym}
use Rattle.std.specs.List.{find, flat_map}
use Rattle.std.proofs.lemmas.Bool.Decides.{nat_tests}
use Rattle.mpi_model.specs.declared.event.OpName.{OpName}
use Rattle.mpi_model.specs.declared.message.Message.{Message}
use Rattle.mpi_model.specs.declared.message.Receive.{Receive}
use Rattle.trace_ops.specs.Ops.{AreOwn, IsOwn, Ops}
use Rattle.trace_ops.specs.Order.{AreInOrder, ArePosted, Has}
use Rattle.trace_wait.specs.Parts.{AreMessagesFound, AreReceivesFound, is_of}
use Rattle.trace_wait.specs.Ranks.{ops_of}
use Rattle.trace_wait.proofs.Searches.{Rises, apart, receives_rise, sends_rise}

-- ---- the operations of one rank

-- What each rank did stands in order.
pub in_order : (first : ℕ) (ops : List Ops) (r : ℕ) → AreOwn first ops → AreInOrder (ops_of ops r).sends × ArePosted (ops_of ops r).receives
in_order first [] r own = (tt, tt)
in_order first (o ∷ ops) zero own = (own.0.sends_rise, own.0.receives_rise)
in_order first (o ∷ ops) (suc r) own = in_order (first + 1) ops r own.1

-- ---- found by their names

itself : (n : OpName) → is_of n n ≡ true
itself n = grind (arith, nat_tests)

-- of names that rise each is found at its place
found_rising : {X : Type 0} (name : X → OpName) (xs : List X) (x : X) → Rises name xs → Has xs x → find (λ y. is_of (name x) (name y)) xs ≡ Some x
found_rising name [] x up i = absurd i
found_rising {X = X} name (z ∷ zs) x up i =
    ⊎_elim
    (λ (e : x ≡ z).
    let here : is_of (name x) (name z) ≡ true = subst (λ (y : X). is_of (name x) (name y) ≡ true) e (itself (name x)) in
    ap (λ (b : Bool). cond b (Some z) (find (λ y. is_of (name x) (name y)) zs)) here ∙ ap (λ (y : X). Some y) (sym e))
    (λ (j : Has zs x).
    let miss : is_of (name x) (name z) ≡ false = apart (name x) (name z) (name x) (up.0 x j) (itself (name x)) in
    ap (λ (b : Bool). cond b (Some z) (find (λ y. is_of (name x) (name y)) zs)) miss ∙ found_rising name zs x up.1 j)
    i

either : {X : Type 0} (xs ys : List X) (x : X) → Has (xs ++ ys) x → Has xs x ⊎ Has ys x
either [] ys x i = inr i
either (z ∷ xs) ys x i = ⊎_elim (λ (e : x ≡ z). inl (inl e)) (λ j. ⊎_elim (λ k. inl (inr k)) (λ k. inr k) (either xs ys x j)) i

module _ {X : Type 0} (part : Ops → List X) (name : X → OpName)
    (own_rank : (rank : ℕ) (o : Ops) → IsOwn rank o → (x : X) → Has (part o) x → (name x).rank ≡ rank)
    (rises : (rank : ℕ) (o : Ops) → IsOwn rank o → Rises name (part o)) where
  -- what some rank did is found by its name there
  found_from : (first : ℕ) (ops : List Ops) → AreOwn first ops → (x : X) → Has (flat_map part ops) x
      → (r : ℕ) × ((name x).rank ≡ first + r) × (find (λ y. is_of (name x) (name y)) (part (ops_of ops r)) ≡ Some x)
  found_from first [] own x i = absurd i
  found_from first (o ∷ ops) own x i =
      ⊎_elim
      (λ (j : Has (part o) x). let e = own_rank first o own.0 x j in (0, omega (arith, e), found_rising name (part o) x (rises first o own.0) j))
      (λ (j : Has (flat_map part ops) x). let w = found_from (first + 1) ops own.1 x j in (suc w.0, omega (arith, w.1), w.2))
      (either (part o) (flat_map part ops) x i)

  found_by_name : (ops : List Ops) → AreOwn 0 ops → (x : X) → Has (flat_map part ops) x → find (λ y. is_of (name x) (name y)) (part (ops_of ops (name x).rank)) ≡ Some x
  found_by_name ops own x i =
      let w = found_from 0 ops own x i in
      let e : w.0 ≡ (name x).rank = omega (arith, w.1) in
      subst (λ (r : ℕ). find (λ y. is_of (name x) (name y)) (part (ops_of ops r)) ≡ Some x) e w.2

pub messages_found : (ops : List Ops) → AreOwn 0 ops → AreMessagesFound ops
messages_found ops own = found_by_name {X = Message} (λ (o : Ops). o.sends) (λ (m : Message). m.name) (λ rank o is m i. is.sent m i) (λ rank o is. sends_rise o.sends is.sends_rise) ops own

pub receives_found : (ops : List Ops) → AreOwn 0 ops → AreReceivesFound ops
receives_found ops own = found_by_name {X = Receive} (λ (o : Ops). o.receives) (λ (q : Receive). q.name) (λ rank o is q i. is.posted q i) (λ rank o is. receives_rise o.receives is.receives_rise) ops own
