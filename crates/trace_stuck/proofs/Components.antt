-- Three searches find the hearts.
use Rattle.std.proofs.Common.{◌≡◌, ℕ, zero, suc, ◌+◌, ◌<◌, ◌≤◌, Bool, true, false, Option, Some, None, ⊎_elim, refl, sym, ◌∙◌, ap, subst, arith}
use Rattle.trace_stuck.specs.Chains.{Leads}
use Rattle.trace_stuck.specs.Graph.{IsFirst}
use Rattle.trace_stuck.proofs.Chained.{along, leads_back, leads_next, leads_self, leads_then}
use Rattle.trace_stuck.proofs.Labels.{two_cases}

-- a node of a heart, by any steps between there nodes
abbrev pub HeartAt : (ℕ → Bool) → (ℕ → ℕ → Bool) → ℕ → Type 0
HeartAt there step r = (there r ≡ true) × ((s : ℕ) → Leads step r s → Leads step s r)

-- the heart of a node, by any steps between there nodes
abbrev pub HeartIn : (ℕ → Bool) → (ℕ → ℕ → Bool) → ℕ → Option ℕ → Type 0
HeartIn there step r (Some m) = ((there r ≡ true) × ((s : ℕ) → Leads step r s → Leads step s r)) × Leads step r m × ((s : ℕ) → Leads step r s → m ≤ s)
HeartIn there step r None = (there r ≡ true) × ((s : ℕ) → Leads step r s → Leads step s r) → ⊥

-- Some nodes are there, and each step is from one to another. `least` has the least node that is reached, `leaks` says
-- from where a step leads to a node with another one, `strays` which nodes reach such a node, and `roots` are the
-- others that are their own least.
module _ (there : ℕ → Bool) (step against : ℕ → ℕ → Bool)
    (turn : (x y : ℕ) → against x y ≡ true → step y x ≡ true) (back : (x y : ℕ) → step x y ≡ true → against y x ≡ true)
    (within : (x y : ℕ) → step x y ≡ true → (there x ≡ true) × (there y ≡ true))
    (least : ℕ → Option ℕ) (least_is : (x : ℕ) → IsFirst against there x (least x)) where
  forth : (r s : ℕ) → Leads against r s → Leads step s r
  forth = leads_back step against turn

  home : (r s : ℕ) → Leads step r s → Leads against s r
  home = leads_back against step back

  there_on : (x y : ℕ) → Leads step x y → there x ≡ true → there y ≡ true
  there_on = along step (λ z. there z ≡ true) (λ y z p h. (within y z h).1)

  -- what the least node of x is
  abbrev IsLeast : ℕ → ℕ → Type 0
  IsLeast x m = (least x ≡ Some m) × Leads step x m × ((n : ℕ) → Leads step x n → m ≤ n)

  least_at : (x : ℕ) → there x ≡ true → (o : Option ℕ) → least x ≡ o → (m : ℕ) × IsLeast x m
  least_at x h None e = absurd (subst (λ (o : Option ℕ). IsFirst against there x o) e (least_is x) x h (leads_self against x))
  least_at x h (Some m) e =
      let p = subst (λ (o : Option ℕ). IsFirst against there x o) e (least_is x) in
      (m, (e, forth m x p.1, λ n l. p.2 n (there_on x n l h) (home x n l)))

  pub some_least : (x : ℕ) → there x ≡ true → (m : ℕ) × IsLeast x m
  some_least x h = least_at x h (least x) refl

  -- a node with a least one is there and reaches it
  pub of_least : (x m : ℕ) → least x ≡ Some m → (there m ≡ true) × Leads step x m
  of_least x m e = let p = subst (λ (o : Option ℕ). IsFirst against there x o) e (least_is x) in (p.0, forth m x p.1)

  -- nodes that reach each other have one least node
  same_least : (x y : ℕ) → there x ≡ true → there y ≡ true → Leads step x y → Leads step y x → least x ≡ least y
  same_least x y h k l m =
      let p = some_least x h in
      let q = some_least y k in
      let a = p.1.2 q.0 (leads_then step x y q.0 l q.1.1) in
      let b = q.1.2 p.0 (leads_then step y x p.0 m p.1.1) in
      let e : p.0 ≡ q.0 = omega (arith, a, b) in
      p.1.0 ∙ ap (λ (n : ℕ). Some n) e ∙ sym q.1.0

  module _ (leaks : ℕ → Bool) (leak : (x : ℕ) → leaks x ≡ true → (y : ℕ) × (step x y ≡ true) × (least y ≡ least x → ⊥))
      (tight : (x : ℕ) → leaks x ≡ false → (y : ℕ) → step x y ≡ true → least y ≡ least x)
      (strays : ℕ → Option ℕ) (strays_are : (x : ℕ) → IsFirst against leaks x (strays x))
      (roots : ℕ → Bool) (root : (x : ℕ) → roots x ≡ true → (least x ≡ Some x) × (strays x ≡ None))
      (is_root : (x : ℕ) → least x ≡ Some x → strays x ≡ None → roots x ≡ true) where
    calm : (x : ℕ) → strays x ≡ None → (y : ℕ) → Leads step x y → leaks y ≡ false
    calm x e y l = ⊎_elim
        (λ (h : leaks y ≡ true). absurd (subst (λ (o : Option ℕ). IsFirst against leaks x o) e (strays_are x) y h (home x y l)))
        (λ (h : leaks y ≡ false). h)
        (two_cases (leaks y))

    -- all that is reached has the same least node
    even : (x : ℕ) → strays x ≡ None → (y : ℕ) → Leads step x y → least y ≡ least x
    even x e y l = (along step (λ z. (least z ≡ least x) × Leads step x z)
        (λ w z p h. (tight w (calm x e w p.1) z h ∙ p.0, leads_next step x w z p.1 h)) x y l (refl, leads_self step x)).0

    abbrev InHeart : ℕ → Type 0
    InHeart r = (there r ≡ true) × ((s : ℕ) → Leads step r s → Leads step s r)

    -- what a root reaches is the heart of the root
    from_root : (m x : ℕ) → roots m ≡ true → Leads step m x → HeartIn there step x (Some m)
    from_root m x h l =
        let p = root m h in
        let own = of_least m m p.0 in
        let here : least x ≡ Some m = even m p.1 x l ∙ p.0 in
        let there = of_least x m here in
        let up = there_on m x l own.0 in
        let q = some_least x up in
        let e : q.0 ≡ m = cc (q.1.0, here) in (
          (
            up,
            λ s k.
                let same : least s ≡ Some m = even m p.1 s (leads_then step m x s l k) ∙ p.0 in
                leads_then step s m x (of_least s m same).1 l,
          ),
          there.1,
          λ s k. subst (λ (n : ℕ). n ≤ s) e (q.1.2 s k),
        )

    no_stray : (x m : ℕ) → InHeart x → Leads step x m → (o : Option ℕ) → strays m ≡ o → strays m ≡ None
    no_stray x m i l None e = e
    no_stray x m i l (Some k) e =
        let p = subst (λ (o : Option ℕ). IsFirst against leaks m o) e (strays_are m) in
        let to = leads_then step x m k l (forth k m p.1) in
        let q = leak k p.0 in
        let on = leads_next step x k q.0 to q.1 in
        let round = leads_then step q.0 x k (i.1 q.0 on) to in
        absurd (q.2 (same_least q.0 k (there_on x q.0 on i.0) (there_on x k to i.0) round (leads_next step k k q.0 (leads_self step k) q.1)))

    -- a node of a heart is reached by a root
    to_root : (x : ℕ) → InHeart x → (m : ℕ) × (roots m ≡ true) × Leads step m x
    to_root x i =
        let p = some_least x i.0 in
        let up = there_on x p.0 p.1.1 i.0 in
        let q = some_least p.0 up in
        let a = q.1.2 p.0 (leads_self step p.0) in
        let b = p.1.2 q.0 (leads_then step x p.0 q.0 p.1.1 q.1.1) in
        let e : q.0 ≡ p.0 = omega (arith, a, b) in
        let own : least p.0 ≡ Some p.0 = q.1.0 ∙ ap (λ (n : ℕ). Some n) e in
        (p.0, is_root p.0 own (no_stray x p.0 i p.1.1 (strays p.0) refl), i.1 p.0 p.1.1)

    -- the search from the roots names the hearts
    pub heart_is : (x : ℕ) (o : Option ℕ) → IsFirst step roots x o → HeartIn there step x o
    heart_is x None none = λ i. let p = to_root x i in none p.0 p.1 p.2
    heart_is x (Some m) p = from_root m x p.0 p.1

    -- a number that nodes stay below
    module _ (count : ℕ) (below : (x : ℕ) → there x ≡ true → x < count) where
      reach_at : (room x m : ℕ) → there x ≡ true → IsLeast x m → count ≤ m + room → (o : Option ℕ) → strays m ≡ o → (s : ℕ) × Leads step x s × InHeart s
      reach_at room x m h l near None e =
          let up = there_on x m l.1 h in
          let q = some_least m up in
          let a = q.1.2 m (leads_self step m) in
          let b = l.2 q.0 (leads_then step x m q.0 l.1 q.1.1) in
          let is : q.0 ≡ m = omega (arith, a, b) in
          let own : least m ≡ Some m = q.1.0 ∙ ap (λ (n : ℕ). Some n) is in
          (m, l.1, (from_root m m (is_root m own e) (leads_self step m)).0)
      reach_at zero x m h l near (Some k) e = absurd (omega (arith, near, below m (there_on x m l.1 h)))
      reach_at (suc room) x m h l near (Some k) e =
          let p = subst (λ (o : Option ℕ). IsFirst against leaks m o) e (strays_are m) in
          let to = leads_then step x m k l.1 (forth k m p.1) in
          let q = leak k p.0 in
          let on = leads_next step x k q.0 to q.1 in
          let mine = some_least k (there_on x k to h) in
          let next = some_least q.0 (there_on x q.0 on h) in
          let a = l.2 mine.0 (leads_then step x k mine.0 to mine.1.1) in
          let b = mine.1.2 next.0 (leads_then step k q.0 next.0 (leads_next step k k q.0 (leads_self step k) q.1) next.1.1) in
          let differ : next.0 ≡ mine.0 → ⊥ = λ (i : next.0 ≡ mine.0). q.2 (next.1.0 ∙ ap (λ (n : ℕ). Some n) i ∙ sym mine.1.0) in
          let near2 : count ≤ next.0 + room = closer count m mine.0 next.0 room near a b differ in
          let found = reach_at room q.0 next.0 (there_on x q.0 on h) next.1 near2 (strays next.0) refl in
          (found.0, leads_then step x q.0 found.0 on found.1, found.2)
        where
          closer : (count m k n room : ℕ) → count ≤ m + suc room → m ≤ k → k ≤ n → (n ≡ k → ⊥) → count ≤ n + room
          closer count m k n room near a b differ = grind arith

      -- each there node reaches a node of a heart
      pub reach_heart : (x : ℕ) → there x ≡ true → (s : ℕ) × Leads step x s × InHeart s
      reach_heart x h =
          let p = some_least x h in
          reach_at count x p.0 h p.1 (omega arith) (strays p.0) refl
