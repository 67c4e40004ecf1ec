-- Elements that a test finds, and calls of one name.
use Rattle.std.proofs.Common.{subst, ◌≡◌, ℕ, zero, suc, Bool, true, false, ◌&&◌, List, [], ◌∷◌, inl, inr, ⊎_elim, sym, refl, ◌∙◌, ap, arith, cond, eqb, Option, Some, None, take}
use Rattle.std.specs.List.{find, filter_map, cons_option}
use Rattle.std.specs.Option.{option_map}
use Rattle.std.proofs.lemmas.Bool.Decides.{nat_tests}
use Rattle.mpi_model.specs.declared.event.OpName.{OpName}
use Rattle.mpi_model.specs.declared.message.Message.{Message}
use Rattle.mpi_model.specs.declared.message.Receive.{Receive}
use Rattle.trace_ops.specs.Order.{Has}
use Rattle.trace_pair.specs.Indexed.{name_lt}
use Rattle.trace_pair.specs.Rising.{AreRising}
use Rattle.trace_pair.specs.Table.{pair_of, same_name as names_agree}
use Rattle.trace_pair.specs.declared.pair.Pair.{Pair}
use Rattle.trace_pair.proofs.Obeyed.{both}
use Rattle.trace_pair.proofs.Certain.{same_name}

pub found : {X : Type 0} (p : X → Bool) (xs : List X) (x : X) → find p xs ≡ Some x → Has xs x × (p x ≡ true)
found p [] x h = absurd (cc)
found {X = X} p (y ∷ ys) x h =
    elim (p y) as (λ b. p y ≡ b → cond b (Some y) (find p ys) ≡ Some x → Has (y ∷ ys) x × (p x ≡ true)) [
      | true ↦ λ e g. let i : y ≡ x = cc in (inl (sym i), subst (λ (z : X). p z ≡ true) i e)
      | false ↦ λ e g. let r = found p ys x g in (inr r.0, r.1)
    ] refl h

pub finds : {X : Type 0} (p : X → Bool) (xs : List X) (x : X) → Has xs x → p x ≡ true → (y : X) × (find p xs ≡ Some y)
finds p [] x i h = absurd i
finds {X = X} p (y ∷ ys) x i h =
    elim (p y) as (λ b. p y ≡ b → (z : X) × (cond b (Some y) (find p ys) ≡ Some z)) [
      | true ↦ λ e. (y, refl)
      | false ↦ λ e. ⊎_elim (λ (d : x ≡ y). absurd (let e' = ap p d in cc)) (λ j. finds p ys x j h) i
    ] refl

-- what a filter that maps gives comes from some element
pub from_some : {X Y : Type 0} (f : X → Option Y) (xs : List X) (y : Y) → Has (filter_map f xs) y → (x : X) × Has xs x × (f x ≡ Some y)
from_some f [] y i = absurd i
from_some {X = X} {Y = Y} f (x ∷ xs) y i =
    elim (f x) as (λ o. f x ≡ o → Has (cons_option o (filter_map f xs)) y → (z : X) × Has (x ∷ xs) z × (f z ≡ Some y)) [
      | None ↦ λ e j. let r = from_some f xs y j in (r.0, inr r.1, r.2)
      | Some v ↦ λ e j. ⊎_elim (λ (d : y ≡ v). (x, inl refl, e ∙ ap (λ (z : Y). Some z) (sym d))) (λ k. let r = from_some f xs y k in (r.0, inr r.1, r.2)) j
    ] refl i

pub gives_some : {X Y : Type 0} (f : X → Option Y) (xs : List X) (x : X) (y : Y) → Has xs x → f x ≡ Some y → Has (filter_map f xs) y
gives_some f [] x y i h = absurd i
gives_some {X = X} {Y = Y} f (z ∷ zs) x y i h =
    elim (f z) as (λ o. f z ≡ o → Has (cons_option o (filter_map f zs)) y) [
      | None ↦ λ e. ⊎_elim (λ (d : x ≡ z). absurd (let e' = ap f d in cc)) (λ j. gives_some f zs x y j h) i
      | Some v ↦ λ e. ⊎_elim (λ (d : x ≡ z). inl (let e' = ap f d in cc)) (λ j. inr (gives_some f zs x y j h)) i
    ] refl

pub has_take : {X : Type 0} (xs : List X) (k : ℕ) (x : X) → Has (take k xs) x → Has xs x
has_take [] k x i = elim k as (λ k. Has (take k []) x → Has [] x) [ zero ↦ λ i. absurd i | suc k ↦ λ i. absurd i ] i
has_take (y ∷ ys) zero x i = absurd i
has_take (y ∷ ys) (suc k) x i = ⊎_elim (λ (d : x ≡ y). inl d) (λ j. inr (has_take ys k x j)) i

pub name_apart : (a b : OpName) → name_lt a b ≡ true → a ≡ b → ⊥
name_apart a b h e = let f = ap (λ (o : OpName). o.rank) e in let g = ap (λ (o : OpName). o.call) e in let p = ap (λ (o : OpName). o.part) e in grind (arith, nat_tests)

-- elements of one name are one element
pub one_named : {X : Type 0} (name : X → OpName) (xs : List X) (x y : X) → AreRising name xs → Has xs x → Has xs y → name x ≡ name y → x ≡ y
one_named name [] x y o i j e = absurd i
one_named name (z ∷ zs) x y o i j e =
    ⊎_elim
    (λ (d : x ≡ z). ⊎_elim (λ (d' : y ≡ z). d ∙ sym d') (λ j'. absurd (name_apart (name z) (name y) (o.0 y j') (ap name (sym d) ∙ e))) j)
    (λ i'. ⊎_elim (λ (d' : y ≡ z). absurd (name_apart (name z) (name x) (o.0 x i') (sym (e ∙ ap name d')))) (λ j'. one_named name zs x y o.1 i' j' e) j)
    i

pub agree : (a b : OpName) → names_agree a b ≡ true → a ≡ b
agree a b h =
    let p = both (eqb a.rank b.rank) (eqb a.call b.call && eqb a.part b.part) h in
    let q = both (eqb a.call b.call) (eqb a.part b.part) p.1 in
    let x : a.rank ≡ b.rank = grind (arith, nat_tests) in
    let y : a.call ≡ b.call = grind (arith, nat_tests) in
    let z : a.part ≡ b.part = grind (arith, nat_tests) in
    same_name a b x y z

pub agrees : (a b : OpName) → a ≡ b → names_agree a b ≡ true
agrees a b e = let f = ap (λ (o : OpName). o.rank) e in let g = ap (λ (o : OpName). o.call) e in let p = ap (λ (o : OpName). o.part) e in grind (arith, nat_tests)

pub mapped : (m : Message) (o : Option Receive) (p : Pair) → option_map (pair_of m) o ≡ Some p → (q : Receive) × (o ≡ Some q) × (p ≡ pair_of m q)
mapped m None p h = absurd (cc)
mapped m (Some q) p h = (q, refl, cc)
