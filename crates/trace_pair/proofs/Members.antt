-- A sorted set for each key, as a list of members.
use Rattle.std.proofs.Common.{subst, ◌≡◌, suc, Bool, true, false, ◌&&◌, ◌||◌, List, [], ◌∷◌, inl, inr, ⊎_elim, sym, refl, ◌∙◌, ap, arith, ◌⊎◌, cond, Some, None}
use Rattle.std.specs.declared.cmp.Ordering.{Ordering}
use Rattle.std.specs.Ordering.{is_eq}
use Rattle.std.specs.Cmp.{IsTotalOrder}
use Rattle.std.specs.List.{flat_map, Contains}
use Rattle.std.specs.BTreeMap.{BTreeMap, get, IsOrdered}
use Rattle.std.specs.BTreeSet.{BTreeSet, contains}
use Rattle.std.proofs.lemmas.Cmp.{tied_itself}
use Rattle.std.proofs.lemmas.Map.Lookups.{CmpEqualImpliesEq}
use Rattle.std.proofs.lemmas.Map.Views.{tells_apart, btree_map_get_iff, btree_set_contains_iff}
use Rattle.trace_ops.specs.Order.{Has}
use Rattle.trace_pair.specs.Groups.{holds, has, members, ArePlaced}
use Rattle.trace_pair.specs.Sets.{AddsTo, DropsFrom}
use Rattle.trace_pair.proofs.Obeyed.{both}
use Rattle.trace_pair.proofs.Ranks.{has_left, has_right, has_either}
use Rattle.trace_pair.proofs.Tabled.{has_at}

pub has_contains : {X : Type 0} (xs : List X) (x : X) → Contains xs x → Has xs x
has_contains {X = X} xs x c = subst (λ (y : X). Has xs y) c.2 (has_at xs c.0 x c.1)

pub contains_has : {X : Type 0} (xs : List X) (x : X) → Has xs x → Contains xs x
contains_has [] x i = absurd i
contains_has (y ∷ ys) x i = ⊎_elim (λ (e : x ≡ y). (0, omega arith, sym e)) (λ j. let c = contains_has ys x j in (suc c.0, omega (arith, c.1), c.2)) i

has_flat : {X Y : Type 0} (f : X → List Y) (xs : List X) (x : X) (y : Y) → Has xs x → Has (f x) y → Has (flat_map f xs) y
has_flat f [] x y i j = absurd i
has_flat {X = X} f (z ∷ zs) x y i j = ⊎_elim (λ (e : x ≡ z). has_left (f z) (flat_map f zs) y (subst (λ (w : X). Has (f w) y) e j)) (λ k. has_right (f z) (flat_map f zs) y (has_flat f zs x y k j)) i

flat_has : {X Y : Type 0} (f : X → List Y) (xs : List X) (y : Y) → Has (flat_map f xs) y → (x : X) × Has xs x × Has (f x) y
flat_has f [] y i = absurd i
flat_has {X = X} {Y = Y} f (z ∷ zs) y i =
    ⊎_elim (λ (j : Has (f z) y). (z, inl refl, j)) (λ (j : Has (flat_map f zs) y). let w = flat_has f zs y j in (w.0, inr w.1, w.2)) (has_either (f z) (flat_map f zs) y i)

or_right : (b : Bool) → (b || true) ≡ true
or_right true = refl
or_right false = refl

or_cases : (a b : Bool) → (a || b) ≡ true → (a ≡ true) ⊎ (b ≡ true)
or_cases true b h = inl refl
or_cases false b h = inr h

left_out : (a b : Bool) → cond a false b ≡ true → (a ≡ false) × (b ≡ true)
left_out true b h = absurd (cc)
left_out false b h = (refl, h)

no_and : (b : Bool) → (b && false) ≡ false
no_and true = refl
no_and false = refl

-- a member was taken from a key, and then the key, at which none was left
pub emptied : (a b old mid new : Bool) → new ≡ cond a false mid → mid ≡ cond (a && b) false old → (a ≡ true → mid ≡ false) → new ≡ cond (a && b) false old
emptied true b old mid new n m e = n ∙ sym (e refl) ∙ m
emptied false b old mid new n m e = n ∙ m

module _ {K T : Type 0} {cmp : K → K → Ordering} {order : T → T → Ordering} (keys : IsTotalOrder cmp) (exact : CmpEqualImpliesEq cmp) (total : IsTotalOrder order) (sharp : CmpEqualImpliesEq order) where
  pub has_member : (m : BTreeMap K (BTreeSet T)) → IsOrdered cmp m → (k : K) (d : T) → has cmp order m k d ≡ true → Has (members m) d
  has_member m o k d h =
      elim (get cmp m k) as (λ g. get cmp m k ≡ g → holds order g d ≡ true → Has (members m) d) [
        | None ↦ λ e j. absurd (cc)
        | Some s ↦ λ e j. has_flat (λ e. e.1.keys) m.entries (k, s) d (has_contains m.entries (k, s) ((btree_map_get_iff keys exact m o k s).0 e))
            (has_contains s.keys d ((btree_set_contains_iff total sharp s d).0 j))
      ] refl h

  pub member_has : (m : BTreeMap K (BTreeSet T)) → IsOrdered cmp m → (d : T) → Has (members m) d → (k : K) × (has cmp order m k d ≡ true)
  member_has m o d i =
      let w = flat_has (λ e. e.1.keys) m.entries d i in
      let g : get cmp m w.0.0 ≡ Some w.0.1 = (btree_map_get_iff keys exact m o w.0.0 w.0.1).1 (contains_has m.entries w.0 w.1) in
      let c : contains order w.0.1 d ≡ true = (btree_set_contains_iff total sharp w.0.1 d).1 (contains_has w.0.1.keys d w.2) in
      (w.0.0, ap (λ s. holds order s d) g ∙ c)

  pub same_members : (old new : BTreeMap K (BTreeSet T)) → IsOrdered cmp old → IsOrdered cmp new → ((k : K) (d : T) → has cmp order new k d ≡ has cmp order old k d) → (y : T) → Has (members new) y → Has (members old) y
  same_members old new o n law y i = let w = member_has new n y i in has_member old o w.0 y (sym (law w.0 y) ∙ w.1)

  itself : (k : K) (x : T) → (is_eq (cmp k k) && is_eq (order x x)) ≡ true
  itself k x = ap (λ a. is_eq a && is_eq (order x x)) (tied_itself keys k) ∙ ap (λ a. is_eq a) (tied_itself total x)

  pub adds : (old new : BTreeMap K (BTreeSet T)) → IsOrdered cmp old → IsOrdered cmp new → (key : K) (x : T) →
      ((k : K) (d : T) → has cmp order new k d ≡ ((is_eq (cmp key k) && is_eq (order x d)) || has cmp order old k d)) → AddsTo (members old) (members new) x
  adds old new o n key x law = record {
    keeps = λ y i. let w = member_has old o y i in
        has_member new n w.0 y (law w.0 y ∙ ap (λ b. (is_eq (cmp key w.0) && is_eq (order x y)) || b) w.1 ∙ or_right (is_eq (cmp key w.0) && is_eq (order x y)));
    added = has_member new n key x (law key x ∙ ap (λ b. b || has cmp order old key x) (itself key x));
    cases = λ y i. let w = member_has new n y i in
        ⊎_elim (λ (h : (is_eq (cmp key w.0) && is_eq (order x y)) ≡ true). inr (sym (tells_apart sharp x y (both (is_eq (cmp key w.0)) (is_eq (order x y)) h).1)))
        (λ (h : has cmp order old w.0 y ≡ true). inl (has_member old o w.0 y h))
        (or_cases (is_eq (cmp key w.0) && is_eq (order x y)) (has cmp order old w.0 y) (sym (law w.0 y) ∙ w.1));
  }

  pub drops : (key_of : T → K) (old new : BTreeMap K (BTreeSet T)) → IsOrdered cmp old → IsOrdered cmp new → ArePlaced cmp order key_of old → (x : T) →
      ((k : K) (d : T) → has cmp order new k d ≡ cond (is_eq (cmp (key_of x) k) && is_eq (order x d)) false (has cmp order old k d)) → DropsFrom (members old) (members new) x
  drops key_of old new o n placed x law = record {
    keeps = λ y i. let w = member_has old o y i in
        elim (is_eq (cmp (key_of x) w.0) && is_eq (order x y)) as (λ b. (is_eq (cmp (key_of x) w.0) && is_eq (order x y)) ≡ b → Has (members new) y ⊎ (y ≡ x)) [
          | true ↦ λ h. inr (sym (tells_apart sharp x y (both (is_eq (cmp (key_of x) w.0)) (is_eq (order x y)) h).1))
          | false ↦ λ h. inl (has_member new n w.0 y (law w.0 y ∙ ap (λ b. cond b false (has cmp order old w.0 y)) h ∙ w.1))
        ] refl;
    dropped = λ i.
        let w = member_has new n x i in
        let p = left_out (is_eq (cmp (key_of x) w.0) && is_eq (order x x)) (has cmp order old w.0 x) (sym (law w.0 x) ∙ w.1) in
        let k : w.0 ≡ key_of x = placed w.0 x p.1 in
        let q : (is_eq (cmp (key_of x) w.0) && is_eq (order x x)) ≡ true = ap (λ (a : K). is_eq (cmp (key_of x) a) && is_eq (order x x)) k ∙ itself (key_of x) x in
        let r = p.0 in cc;
    was = λ y i. let w = member_has new n y i in
        has_member old o w.0 y (left_out (is_eq (cmp (key_of x) w.0) && is_eq (order x y)) (has cmp order old w.0 y) (sym (law w.0 y) ∙ w.1)).1;
  }

  -- the members stay at their keys
  pub placed_more : (key_of : T → K) (old new : BTreeMap K (BTreeSet T)) → ArePlaced cmp order key_of old → (x : T) →
      ((k : K) (d : T) → has cmp order new k d ≡ ((is_eq (cmp (key_of x) k) && is_eq (order x d)) || has cmp order old k d)) → ArePlaced cmp order key_of new
  placed_more key_of old new placed x law k d h =
      ⊎_elim (λ (g : (is_eq (cmp (key_of x) k) && is_eq (order x d)) ≡ true).
      let t = both (is_eq (cmp (key_of x) k)) (is_eq (order x d)) g in
      sym (tells_apart exact (key_of x) k t.0) ∙ ap key_of (tells_apart sharp x d t.1))
      (λ (g : has cmp order old k d ≡ true). placed k d g)
      (or_cases (is_eq (cmp (key_of x) k) && is_eq (order x d)) (has cmp order old k d) (sym (law k d) ∙ h))

  pub placed_less : (key_of : T → K) (old new : BTreeMap K (BTreeSet T)) → ArePlaced cmp order key_of old → (key : K) (x : T) →
      ((k : K) (d : T) → has cmp order new k d ≡ cond (is_eq (cmp key k) && is_eq (order x d)) false (has cmp order old k d)) → ArePlaced cmp order key_of new
  placed_less key_of old new placed key x law k d h =
      placed k d (left_out (is_eq (cmp key k) && is_eq (order x d)) (has cmp order old k d) (sym (law k d) ∙ h)).1

  -- a member stands at its own key
  pub stands : (key_of : T → K) (m : BTreeMap K (BTreeSet T)) → IsOrdered cmp m → ArePlaced cmp order key_of m → (d : T) → Has (members m) d → has cmp order m (key_of d) d ≡ true
  stands key_of m o placed d i =
      let w = member_has m o d i in
      ap (λ (k : K). has cmp order m k d) (sym (placed w.0 d w.1)) ∙ w.1

  -- at its own key a member is told apart by the order of members alone
  own_test : (key_of : T → K) (x d : T) → (is_eq (cmp (key_of x) (key_of d)) && is_eq (order x d)) ≡ is_eq (order x d)
  own_test key_of x d =
      elim (is_eq (order x d)) as (λ b. is_eq (order x d) ≡ b → (is_eq (cmp (key_of x) (key_of d)) && b) ≡ b) [
        | true ↦ λ h. let e = tells_apart sharp x d h in
            ap (λ (y : T). is_eq (cmp (key_of x) (key_of y)) && true) (sym e) ∙ ap (λ a. is_eq a && true) (tied_itself keys (key_of x))
        | false ↦ λ h. no_and (is_eq (cmp (key_of x) (key_of d)))
      ] refl

  pub own_adds : (key_of : T → K) (old new : BTreeMap K (BTreeSet T)) (x : T) →
      ((k : K) (d : T) → has cmp order new k d ≡ ((is_eq (cmp (key_of x) k) && is_eq (order x d)) || has cmp order old k d)) →
      (d : T) → has cmp order new (key_of d) d ≡ (is_eq (order x d) || has cmp order old (key_of d) d)
  own_adds key_of old new x law d = law (key_of d) d ∙ ap (λ b. b || has cmp order old (key_of d) d) (own_test key_of x d)

  pub own_drops : (key_of : T → K) (old new : BTreeMap K (BTreeSet T)) (x : T) →
      ((k : K) (d : T) → has cmp order new k d ≡ cond (is_eq (cmp (key_of x) k) && is_eq (order x d)) false (has cmp order old k d)) →
      (d : T) → has cmp order new (key_of d) d ≡ cond (is_eq (order x d)) false (has cmp order old (key_of d) d)
  own_drops key_of old new x law d = law (key_of d) d ∙ ap (λ b. cond b false (has cmp order old (key_of d) d)) (own_test key_of x d)
