-- Lists, one element more.
use Rattle.std.proofs.Common.{◌≡◌, ◌∙◌, ◌+◌, ◌<◌, ℕ, zero, suc, Bool, true, false, cond, List, [], ◌∷◌, ◌++◌, Option, Some, None, append-nil, append_assoc, filter, get_or, length, map, take, refl, subst, sym, ap, arith}
use Rattle.std.specs.Prelude.{All}
use Rattle.std.specs.List.{cons_option, filter_map, find, flat_map}
use Rattle.std.proofs.lemmas.Grind.{flat_map-append}
use Rattle.std.proofs.lemmas.List.{map-append, take_more}
use Rattle.std.proofs.lemmas.List.Elements.{All-append, filter-append, filter_map-append}

-- what goes through appending
abbrev pub Joins : {X Y : Type 0} → (List X → List Y) → Type 0
Joins {X} h = (a b : List X) → h (a ++ b) ≡ h a ++ h b

-- what is made of one more, behind a list
pub one_more_behind : {X Y : Type 0} (h : List X → List Y) → Joins h → (xs : List X) (i : ℕ) (d : X) (front before after : List Y) → i < length xs
    → before ≡ front ++ h (take i xs) → after ≡ before ++ h (get_or xs i d ∷ []) → after ≡ front ++ h (take (i + 1) xs)
one_more_behind {Y = Y} h joins xs i d front before after lt so_far more =
    let x = get_or xs i d in
    more ∙ ap (λ (l : List Y). l ++ h (x ∷ [])) so_far ∙ append_assoc front (h (take i xs)) (h (x ∷ []))
    ∙ ap (λ (l : List Y). front ++ l) (sym (joins (take i xs) (x ∷ [])) ∙ ap h (sym (take_more xs i d lt)))

only : {X : Type 0} (P : X → Type 0) (x : X) → P x → All P (x ∷ [])
only P x one zero d lt = one
only P x one (suc k) d lt = absurd (omega (arith, lt))

-- what holds of each holds with one more
pub all_more : {X : Type 0} (P : X → Type 0) (old new : List X) (x : X) → new ≡ old ++ x ∷ [] → P x → All P old → All P new
all_more {X = X} P old new x e one all = subst (λ (l : List X). All P l) (sym e) (All-append P old (x ∷ []) all (only P x one))

pub named_joins : {X Y Z : Type 0} (g : Y → Z) (p : Y → Bool) (n : X → Y) → Joins (λ xs. map g (filter p (map n xs)))
named_joins {Y = Y} g p n a b =
    ap (λ (l : List Y). map g (filter p l)) (map-append n a b) ∙ ap (map g) (filter-append p (map n a) (map n b)) ∙ map-append g (filter p (map n a)) (filter p (map n b))

-- one list more, of one item more
pub flat_more : {X Y : Type 0} (g : X → List Y) (xs : List X) (i : ℕ) (x : X) (before after : List Y) → i < length xs → x ≡ get_or xs i x
    → before ≡ flat_map g (take i xs) → after ≡ before ++ g x → after ≡ flat_map g (take (i + 1) xs)
flat_more {Y = Y} g xs i x before after lt is so_far more =
    more ∙ ap (λ (l : List Y). l ++ g x) so_far
    ∙ sym (ap (flat_map g) (take_more xs i x lt) ∙ flat_map-append g (take i xs) (get_or xs i x ∷ [])
    ∙ ap (λ (l : List Y). flat_map g (take i xs) ++ l) (append-nil (g (get_or xs i x)) ∙ ap g (sym is)))

-- one that is kept or not, of one item more
pub kept_more : {X Y : Type 0} (g : X → Option Y) (xs : List X) (i : ℕ) (d : X) (before after : List Y) → i < length xs
    → before ≡ filter_map g (take i xs) → after ≡ before ++ cons_option (g (get_or xs i d)) [] → after ≡ filter_map g (take (i + 1) xs)
kept_more {Y = Y} g xs i d before after lt so_far more =
    more ∙ ap (λ (l : List Y). l ++ cons_option (g (get_or xs i d)) []) so_far
    ∙ sym (filter_map-append g (take i xs) (get_or xs i d ∷ [])) ∙ ap (filter_map g) (sym (take_more xs i d lt))

-- ---- the first of a list that passes

module _ {X : Type 0} (p : X → Bool) where
  rest_found : (b : Bool) (y x : X) (q r : Option X) → cond b (Some y) q ≡ None → (q ≡ None → r ≡ Some x) → cond b (Some y) r ≡ Some x
  rest_found true y x q r e h = cc
  rest_found false y x q r e h = h e

  rest_none : (b : Bool) (y : X) (q r : Option X) → cond b (Some y) q ≡ None → (q ≡ None → r ≡ None) → cond b (Some y) r ≡ None
  rest_none true y q r e h = cc
  rest_none false y q r e h = h e

  -- none so far, and this one
  pub found : (xs : List X) (i : ℕ) (x : X) → i < length xs → x ≡ get_or xs i x → find p (take i xs) ≡ None → p x ≡ true → find p xs ≡ Some x
  found [] i x lt e before is = absurd (omega arith)
  found (y ∷ xs) zero x lt e before is = ap (λ (t : Bool). cond t (Some y) (find p xs)) (ap p (sym e) ∙ is) ∙ ap (λ (z : X). Some z) (sym e)
  found (y ∷ xs) (suc i) x lt e before is = rest_found (p y) y x (find p (take i xs)) (find p xs) before (λ none. found xs i x (omega (arith, lt)) e none is)

  -- none so far, and not this one
  pub none_next : (xs : List X) (i : ℕ) (x : X) → i < length xs → x ≡ get_or xs i x → find p (take i xs) ≡ None → p x ≡ false → find p (take (suc i) xs) ≡ None
  none_next [] i x lt e before not = absurd (omega arith)
  none_next (y ∷ xs) zero x lt e before not = ap (λ (t : Bool). cond t (Some y) None) (ap p (sym e) ∙ not)
  none_next (y ∷ xs) (suc i) x lt e before not = rest_none (p y) y (find p (take i xs)) (find p (take (suc i) xs)) before (λ none. none_next xs i x (omega (arith, lt)) e none not)
