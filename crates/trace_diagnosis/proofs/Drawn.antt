-- The edges of a graph come from held ranks.
use Rattle.std.proofs.Common.{◌≡◌, ◌∙◌, ◌+◌, ℕ, zero, suc, Bool, true, false, ◌&&◌, List, [], ◌∷◌, Option, Some, None, Vec, Global, length, map, refl, sym, ap, arith, if◌then◌else◌}
use Rattle.std.specs.Prelude.{nat_lt, not, slice_get}
use Rattle.std.specs.List.{range_with_len}
use Rattle.std.specs.Option.{option_map}
use Rattle.trace_stuck.specs.Graph.{is_up}
use Rattle.trace_stuck.specs.Named.{at_rank}
use Rattle.trace_stuck.specs.Release.{among}
use Rattle.trace_stuck.specs.Shape.{Wait}
use Rattle.diagnosis_value.specs.declared.diagnosis.Need.{Need}
use Rattle.trace_diagnosis.specs.Conditions.{wait_at}
use Rattle.trace_diagnosis.specs.Graph.{HaveEdges, LeadOutOfHeld, needs_at, needs_by, node_of, others}
use Rattle.trace_diagnosis.specs.Needs.{needs_of}
use Rattle.trace_diagnosis.specs.Holding.{holds, is_held, nobody}

some_same : {X : Type 0} (x y : X) → Some x ≡ Some y → x ≡ y
some_same x y e = cc

get_mapped : {X Y : Type 0} (f : X → Y) (xs : List X) (k : ℕ) (x : X) → slice_get xs k ≡ Some x → slice_get (map f xs) k ≡ Some (f x)
get_mapped f [] k x e = absurd (cc (e))
get_mapped {X = X} f (y ∷ xs) zero x e = ap (λ (o : Option X). option_map f o) e
get_mapped f (y ∷ xs) (suc k) x e = get_mapped f xs k x e

get_range : {Y : Type 0} (f : ℕ → Y) (n a k : ℕ) (y : Y) → slice_get (map f (range_with_len a n)) k ≡ Some y → y ≡ f (a + k)
get_range f zero a k y e = absurd (cc (e))
get_range f (suc n) a zero y e = sym (some_same (f a) y e) ∙ ap f (omega arith)
get_range f (suc n) a (suc k) y e = get_range f n (a + 1) k y e ∙ ap f (omega arith)

up_held : (ws : List (Option Wait)) (r : ℕ) → is_up (map is_held ws) r ≡ is_held (wait_at ws r)
up_held [] r = refl
up_held (w ∷ ws) zero = refl
up_held (w ∷ ws) (suc r) = up_held ws r

-- a rank that needs something is held
held_needs : (able : List Bool) (r : ℕ) (o : Option Wait) → is_held o ≡ false → needs_by able r o ≡ []
held_needs able r None e = refl
held_needs able r (Some w) e = by (holds nobody w) (needs_of (others able r) w) e
  where
    by : (b : Bool) (l : List Need) → not b ≡ false → (if b then [] else l) ≡ []
    by true l h = refl
    by false l h = absurd (cc (h))

no_node : (b : Bool) → (b && false) ≡ true → ⊥
no_node true e = absurd (cc (e))
no_node false e = absurd (cc (e))

module _ (able : List Bool) (ws : List (Option Wait)) (ranks : ℕ) (all : List (Vec Need Global)) (edges : List (Vec ℕ Global)) (needs : map (λ v. v.items) all ≡ map (needs_at able ws) (range_with_len 0 ranks)) (drawn : HaveEdges ranks all edges) where
  no_edges : (r : ℕ) → is_held (wait_at ws r) ≡ false → (o : Option (Vec Need Global)) → slice_get all r ≡ o → at_rank edges r ≡ []
  no_edges r n None e = drawn.none r e
  no_edges r n (Some v) e =
      let is = get_range (needs_at able ws) ranks 0 r v.items (sym (ap (λ (l : List (List Need)). slice_get l r) needs) ∙ get_mapped (λ (x : Vec Need Global). x.items) all r v e) in
      drawn.there r v e ∙ ap (map (node_of ranks)) (is ∙ ap (needs_at able ws) (omega arith) ∙ held_needs able r (wait_at ws r) n)

  pub out_of_held : LeadOutOfHeld edges (map is_held ws)
  out_of_held r s e = up_held ws r ∙ by (is_held (wait_at ws r)) refl
    where
      by : (b : Bool) → is_held (wait_at ws r) ≡ b → b ≡ true
      by true h = refl
      by false h =
          let none = no_edges r h (slice_get all r) refl in
          absurd (no_node (nat_lt s (length edges)) (ap (λ (l : List ℕ). nat_lt s (length edges) && among l s) (sym none) ∙ e))
