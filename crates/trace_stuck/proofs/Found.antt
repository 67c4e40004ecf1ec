-- What the searches over a graph find are the hearts.
use Rattle.std.proofs.Common.{◌≡◌, ℕ, ◌<◌, ◌≤◌, ◌⊎◌, inl, inr, Bool, true, false, ◌&&◌, Option, Some, None, List, refl, sym, ◌∙◌, subst, arith, length, Vec, Global}
use Rattle.std.specs.Prelude.{nat_lt}
use Rattle.std.proofs.lemmas.Bool.Decides.{nat_tests}
use Rattle.trace_stuck.specs.Release.{among}
use Rattle.trace_stuck.specs.Named.{at_rank}
use Rattle.trace_stuck.specs.Chains.{Leads}
use Rattle.trace_stuck.specs.Graph.{edge, IsFirst, is_up, label_at}
use Rattle.trace_stuck.specs.Hearts.{AreHearts, HaveHearts, IsHeartOf}
use Rattle.trace_stuck.specs.Search.{LeakIs, RootIs}
use Rattle.trace_stuck.proofs.Components.{HeartAt, HeartIn, heart_is, reach_heart}
use Rattle.trace_stuck.proofs.Flagged.{at_past, below_or_past}
use Rattle.trace_stuck.proofs.Spreading.{edge_in, true_below, up_in}

below_true : (y n : ℕ) → nat_lt y n ≡ true → y < n
below_true y n h = grind (arith, nat_tests)

-- an edge is from a node that is there
pub edge_from : (edges : List (Vec ℕ Global)) (x y : ℕ) → edge edges x y ≡ true → x < length edges
edge_from edges x y h = by (below_or_past x (length edges))
  where
    nothing : false ≡ true → ⊥
    nothing h = cc

    by : (x < length edges) ⊎ (length edges ≤ x) → x < length edges
    by (inl lt) = lt
    by (inr past) = absurd (nothing (subst (λ (l : List ℕ). among l y ≡ true) (at_past edges x past) (edge_in edges x y h).1))

module _ (edges : List (Vec ℕ Global)) (flags : List Bool) (up : (r : ℕ) → is_up flags r ≡ nat_lt r (length edges)) where
  there : (r : ℕ) → is_up flags r ≡ true → r < length edges
  there r h = below_true r (length edges) (sym (up r) ∙ h)

  raised : (r : ℕ) → r < length edges → is_up flags r ≡ true
  raised r lt = up r ∙ true_below r (length edges) lt

  within : (x y : ℕ) → edge edges x y ≡ true → (is_up flags x ≡ true) × (is_up flags y ≡ true)
  within x y h = (raised x (edge_from edges x y h), raised y (edge_in edges x y h).0)

  as_heart : (r : ℕ) (o : Option ℕ) → HeartIn (is_up flags) (edge edges) r o → IsHeartOf edges r o
  as_heart r None h = λ p. h (raised r p.0, p.1)
  as_heart r (Some m) h = ((there r h.0.0, h.0.1), h.1, h.2)

  module _ (turned : List (Vec ℕ Global)) (back : (r s : ℕ) → edge turned s r ≡ edge edges r s)
      (least strays hearts : List (Option ℕ)) (leaks roots : List Bool)
      (least_is : (x : ℕ) → IsFirst (edge turned) (is_up flags) x (label_at least x))
      (leaks_are : (x : ℕ) → LeakIs edges least x (is_up leaks x))
      (strays_are : (x : ℕ) → IsFirst (edge turned) (is_up leaks) x (label_at strays x))
      (roots_are : (x : ℕ) → RootIs least strays x (is_up roots x))
      (hearts_are : (x : ℕ) → IsFirst (edge edges) (is_up roots) x (label_at hearts x)) where
    leak : (x : ℕ) → is_up leaks x ≡ true → (y : ℕ) × (edge edges x y ≡ true) × (label_at least y ≡ label_at least x → ⊥)
    leak x h = subst (λ (b : Bool). LeakIs edges least x b) h (leaks_are x)

    tight : (x : ℕ) → is_up leaks x ≡ false → (y : ℕ) → edge edges x y ≡ true → label_at least y ≡ label_at least x
    tight x h y e = subst (λ (b : Bool). LeakIs edges least x b) h (leaks_are x) y e

    root : (x : ℕ) → is_up roots x ≡ true → (label_at least x ≡ Some x) × (label_at strays x ≡ None)
    root x h = subst (λ (b : Bool). RootIs least strays x b) h (roots_are x)

    is_root : (x : ℕ) → label_at least x ≡ Some x → label_at strays x ≡ None → is_up roots x ≡ true
    is_root x own calm = true_if (is_up roots x) (λ h. subst (λ (b : Bool). RootIs least strays x b) h (roots_are x) own calm)
      where
        true_if : (b : Bool) → (b ≡ false → ⊥) → b ≡ true
        true_if true h = refl
        true_if false h = absurd (h refl)

    pub hearts_found : AreHearts edges hearts
    hearts_found x = as_heart x (label_at hearts x)
        (heart_is (is_up flags) (edge edges) (edge turned)
        (λ a b h. sym (back b a) ∙ h) (λ a b h. back a b ∙ h) within
        (label_at least) least_is (is_up leaks) leak tight (label_at strays) strays_are (is_up roots) root is_root x (label_at hearts x) (hearts_are x))

    pub hearts_reached : HaveHearts edges
    hearts_reached x lt =
        let p = reach_heart (is_up flags) (edge edges) (edge turned)
        (λ a b h. sym (back b a) ∙ h) (λ a b h. back a b ∙ h) within
        (label_at least) least_is (is_up leaks) leak tight (label_at strays) strays_are (is_up roots) root is_root
        (length edges) there x (raised x lt) in
        (p.0, p.1, (there p.0 p.2.0, p.2.1))
