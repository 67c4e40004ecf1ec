-- The items of an array, one by one.
use Rattle.std.proofs.Common.{◌≡◌, ◌<◌, ◌+◌, ℕ, zero, suc, List, [], ◌∷◌, ◌++◌, take, get_or, length, map, codes, refl, sym, ◌∙◌, ap, arith, append_assoc, append-nil}
use Rattle.std.specs.List.{flat_map}
use Rattle.std.proofs.lemmas.List.Folds.{flat_map-map}
use Rattle.trace_node.specs.Answer.{Answered}
use Rattle.trace_report.specs.Json.{comma_before, joined, rank_object, rank_objects}
use Rattle.trace_report.proofs.Each.{lines_push, take_next}

module _ {X : Type 0} (text : X → List ℕ) where
  joined_push : (v : X) (ws : List X) (w : X) → joined text ((v ∷ ws) ++ w ∷ []) ≡ joined text (v ∷ ws) ++ (codes "," ++ text w)
  joined_push v ws w =
      ap (λ (l : List ℕ). text v ++ l) (lines_push (λ y. codes "," ++ text y) ws w)
      ∙ sym (append_assoc (text v) (flat_map (λ y. codes "," ++ text y) ws) (codes "," ++ text w))

  joined_at : (xs : List X) (i : ℕ) (x : X) → i < length xs → joined text (take i xs ++ x ∷ []) ≡ joined text (take i xs) ++ (comma_before i ++ text x)
  joined_at [] i x h = absurd (omega (arith, h))
  joined_at (y ∷ ys) zero x h = append-nil (text x)
  joined_at (y ∷ ys) (suc i) x h = joined_push y (take i ys) x

  -- one item more
  pub joined_next : (xs : List X) (i : ℕ) (d x : X) → i < length xs → x ≡ get_or xs i d →
      joined text (take (i + 1) xs) ≡ joined text (take i xs) ++ (comma_before i ++ text x)
  joined_next xs i d x h e = ap (joined text) (take_next xs i d x h e) ∙ joined_at xs i x h

-- the items may be seen as something else
pub joined_map : {X Y : Type 0} (f : X → Y) (text : Y → List ℕ) (xs : List X) → joined (λ x. text (f x)) xs ≡ joined text (map f xs)
joined_map f text [] = refl
joined_map f text (x ∷ xs) = ap (λ (l : List ℕ). text (f x) ++ l) (sym (flat_map-map (λ y. codes "," ++ text y) f xs))

-- one rank more
pub ranks_next : (v : Answered) (n : ℕ) → rank_objects v (n + 1) ≡ rank_objects v n ++ (comma_before n ++ rank_object v n)
ranks_next v n = let e : n + 1 ≡ suc n = omega arith in ap (rank_objects v) e
