-- Lists: filters of filters, maps of maps, and places that are written.
use Rattle.std.proofs.Common.{◌≡◌, ◌∙◌, ◌<◌, ◌≤◌, ◌+◌, ◌-◌, ℕ, Bool, true, false, ◌&&◌, ◌||◌, List, [], ◌∷◌, ◌++◌, Option, None, filter, map, length, take, drop, set, get_or, refl, sym, ap, arith, if◌then◌else◌, zero, suc, ⊎_elim, ◌⊎◌}
use Rattle.std.specs.Prelude.{unwrap_or, slice_get}
use Rattle.std.specs.List.{flat_map, list_any, range_with_len}
use Rattle.std.specs.List.Sorted.{IsNonDecreasing, IsStrictlyIncreasing}
use Rattle.std.proofs.lemmas.Grind.{flat_map-append}
use Rattle.std.proofs.lemmas.List.FromFn.{map-range_with_len_more}
use Rattle.std.proofs.lemmas.List.Kept.{AllPairs-from_increasing}
use Rattle.std.proofs.lemmas.List.Elements.{filter-append, filter_more}
use Rattle.std.proofs.lemmas.List.{append-nil, length-append, length-map, map-append, take_at, drop_at, append_assoc, take_more, map_more, get_or-set_same, get_or-set_other}
use Rattle.std.proofs.lemmas.Option.{unwrap_or-slice_get}

pub or_first : (a b : Bool) → (a || b) ≡ false → a ≡ false
or_first true b e = absurd (cc (e))
or_first false b e = refl

pub or_rest : (a b : Bool) → (a || b) ≡ false → b ≡ false
or_rest true b e = absurd (cc (e))
or_rest false b e = e

module _ {X : Type 0} (p q r : X → Bool) (from : (x : X) → r x ≡ false → (p x && q x) ≡ false) where
  first_none : (x : X) (rest : List X) (a b : Bool) → p x ≡ a → q x ≡ b → (a && b) ≡ false → filter p (filter q rest) ≡ [] → filter p (filter q (x ∷ rest)) ≡ []
  first_none x rest a false e f h n = rw f n
  first_none x rest false true e f h n = rw (f, e) n
  first_none x rest true true e f h n = absurd (cc (h))

  both : (x : X) → r x ≡ false → (p x && q x) ≡ false
  both x h = from x h

  -- what neither test leaves
  pub none_kept : (xs : List X) → list_any r xs ≡ false → filter p (filter q xs) ≡ []
  none_kept [] h = refl
  none_kept (x ∷ xs) h = first_none x xs (p x) (q x) refl refl (from x (or_first (r x) (list_any r xs) h)) (none_kept xs (or_rest (r x) (list_any r xs) h))

  -- the same of many lists
  pub none_kept_in : {O : Type 0} (f : O → List X) (os : List O) → list_any (λ o. list_any r (f o)) os ≡ false → filter p (flat_map (λ o. filter q (f o)) os) ≡ []
  none_kept_in f [] h = refl
  none_kept_in f (o ∷ os) h =
      filter-append p (filter q (f o)) (flat_map (λ o. filter q (f o)) os)
      ∙ ap (λ (l : List X). l ++ filter p (flat_map (λ o. filter q (f o)) os)) (none_kept (f o) (or_first (list_any r (f o)) (list_any (λ o. list_any r (f o)) os) h))
      ∙ none_kept_in f os (or_rest (list_any r (f o)) (list_any (λ o. list_any r (f o)) os) h)

-- a map of what a map makes
pub map_map : {X Y Z : Type 0} (f : Y → Z) (g : X → Y) (xs : List X) → map f (map g xs) ≡ map (λ x. f (g x)) xs
map_map f g [] = refl
map_map {Z = Z} f g (x ∷ xs) = ap (λ (l : List Z). f (g x) ∷ l) (map_map f g xs)

-- a map of lists that are put together
pub map-flat_map : {X Y Z : Type 0} (f : Y → Z) (g : X → List Y) (xs : List X) → map f (flat_map g xs) ≡ flat_map (λ x. map f (g x)) xs
map-flat_map f g [] = refl
map-flat_map {Z = Z} f g (x ∷ xs) = map-append f (g x) (flat_map g xs) ∙ ap (λ (l : List Z). map f (g x) ++ l) (map-flat_map f g xs)

-- two ways to make lists of each thing that are one
pub flat_map_same : {X Y : Type 0} (f g : X → List Y) → ((x : X) → f x ≡ g x) → (xs : List X) → flat_map f xs ≡ flat_map g xs
flat_map_same f g e [] = refl
flat_map_same {Y = Y} f g e (x ∷ xs) = ap (λ (l : List Y). l ++ flat_map f xs) (e x) ∙ ap (λ (l : List Y). g x ++ l) (flat_map_same f g e xs)

map-take : {X Y : Type 0} (f : X → Y) (n : ℕ) (xs : List X) → map f (take n xs) ≡ take n (map f xs)
map-take f zero xs = refl
map-take f (suc n) [] = refl
map-take {Y = Y} f (suc n) (x ∷ xs) = ap (λ (l : List Y). f x ∷ l) (map-take f n xs)

map-drop : {X Y : Type 0} (f : X → Y) (n : ℕ) (xs : List X) → map f (drop n xs) ≡ drop n (map f xs)
map-drop f zero xs = refl
map-drop f (suc n) [] = refl
map-drop f (suc n) (x ∷ xs) = map-drop f n xs

module _ {X Y : Type 0} (f : X → Y) (xs : List X) (before own : List Y) (is : map f xs ≡ before ++ own) (n m : ℕ) (count : length own ≡ n) (at : m ≡ length xs - n) where
  front : length before ≡ m
  front = let e : length xs ≡ length before + length own = sym (length-map xs f) ∙ ap length is ∙ length-append before own in omega (arith, e)

  -- all but the last so many
  pub before_last : map f (take m xs) ≡ before
  before_last = map-take f m xs ∙ ap (take m) is ∙ take_at before own m front

  -- the last so many
  pub last_own : map f (drop m xs) ≡ own
  last_own = map-drop f m xs ∙ ap (drop m) is ∙ drop_at before own m front

-- what is made of one more
pub flat_map_more : {X Y : Type 0} (f : X → List Y) (xs : List X) (k : ℕ) (x : X) → k < length xs → x ≡ get_or xs k x → flat_map f (take (k + 1) xs) ≡ flat_map f (take k xs) ++ f x
flat_map_more {X = X} {Y = Y} f xs k x lt is =
    ap (flat_map f) (take_more xs k x lt) ∙ flat_map-append f (take k xs) (get_or xs k x ∷ [])
    ∙ ap (λ (l : List Y). flat_map f (take k xs) ++ l) (append-nil (f (get_or xs k x)) ∙ ap f (sym is))

-- the place that is written, and the others
module _ {W : Type 0} where
  abbrev pub at : List (Option W) → ℕ → Option W
  at ws r = unwrap_or (slice_get ws r) None

  at_or : (ws : List (Option W)) (r : ℕ) → at ws r ≡ get_or ws r None
  at_or ws r = unwrap_or-slice_get ws r None

  pub at_same : (ws : List (Option W)) (r : ℕ) (x : Option W) → r < length ws → at (set ws r x) r ≡ x
  at_same ws r x lt = at_or (set ws r x) r ∙ get_or-set_same ws r x None lt

  pub at_other : (ws : List (Option W)) (k r : ℕ) (x : Option W) → (r ≡ k → ⊥) → at (set ws k x) r ≡ at ws r
  at_other ws k r x ne = at_or (set ws k x) r ∙ get_or-set_other ws k r x None ne ∙ sym (at_or ws r)

-- one item more of a list, which is made into the same as one item more of another list
pub map_step : {A B C : Type 0} (f : A → C) (g : B → C) (old new : List A) (a : A) (xs : List B) (i : ℕ) (x : B) → new ≡ old ++ a ∷ [] → map f old ≡ map g (take i xs) → f a ≡ g x → i < length xs → x ≡ get_or xs i x
    → map f new ≡ map g (take (i + 1) xs)
map_step {A = A} {B = B} {C = C} f g old new a xs i x e before same lt is =
    ap (map f) e ∙ map-append f old (a ∷ []) ∙ ap (λ (l : List C). l ++ f a ∷ []) before ∙ ap (λ (y : C). map g (take i xs) ++ y ∷ []) (same ∙ ap g is)
    ∙ sym (map_more g xs i x lt)

-- the same behind a list
pub append_step : {A B C : Type 0} (f : A → C) (g : B → C) (front : List C) (old new : List A) (a : A) (xs : List B) (i : ℕ) (x : B) → new ≡ old ++ a ∷ [] → map f old ≡ front ++ map g (take i xs) → f a ≡ g x
    → i < length xs → x ≡ get_or xs i x → map f new ≡ front ++ map g (take (i + 1) xs)
append_step {A = A} {B = B} {C = C} f g front old new a xs i x e before same lt is =
    ap (map f) e ∙ map-append f old (a ∷ []) ∙ ap (λ (l : List C). l ++ f a ∷ []) before ∙ append_assoc front (map g (take i xs)) (f a ∷ [])
    ∙ ap (λ (l : List C). front ++ l) (ap (λ (y : C). map g (take i xs) ++ y ∷ []) (same ∙ ap g is) ∙ sym (map_more g xs i x lt))

-- the same where a test keeps the other item or not
pub filter_step : {A B : Type 0} (f : A → B) (p : B → Bool) (old new : List A) (xs : List B) (i : ℕ) (x : B) → map f new ≡ map f old ++ (if p x then x ∷ [] else []) → map f old ≡ filter p (take i xs)
    → i < length xs → x ≡ get_or xs i x → map f new ≡ filter p (take (i + 1) xs)
filter_step {B = B} f p old new xs i x e before lt is =
    e ∙ ap (λ (l : List B). l ++ (if p x then x ∷ [] else [])) before ∙ ap (λ (y : B). filter p (take i xs) ++ (if p y then y ∷ [] else [])) is
    ∙ sym (filter_more p xs i x lt)

-- the same where the other item is made into a list
pub flat_step : {A B C : Type 0} (f : A → C) (g : B → List C) (old new : List A) (xs : List B) (i : ℕ) (x : B) → map f new ≡ map f old ++ g x → map f old ≡ flat_map g (take i xs) → i < length xs → x ≡ get_or xs i x
    → map f new ≡ flat_map g (take (i + 1) xs)
flat_step {C = C} f g old new xs i x e before lt is = e ∙ ap (λ (l : List C). l ++ g x) before ∙ sym (flat_map_more g xs i x lt is)

-- the same of the numbers from 0 on
pub range_step : {A C : Type 0} (f : A → C) (g : ℕ → C) (old new : List A) (a : A) (n : ℕ) → new ≡ old ++ a ∷ [] → map f old ≡ map g (range_with_len 0 n) → f a ≡ g n → map f new ≡ map g (range_with_len 0 (n + 1))
range_step {C = C} f g old new a n e before same =
    ap (map f) e ∙ map-append f old (a ∷ []) ∙ ap (λ (l : List C). l ++ f a ∷ []) before ∙ ap (λ (y : C). map g (range_with_len 0 n) ++ y ∷ []) same
    ∙ sym (map-range_with_len_more g 0 n n (omega arith))

mapped : (xs : List ℕ) → map (λ x. x) xs ≡ xs
mapped [] = refl
mapped (x ∷ xs) = ap (λ (l : List ℕ). x ∷ l) (mapped xs)

pub one_range : (n : ℕ) → range_with_len 0 (n + 1) ≡ range_with_len 0 n ++ n ∷ []
one_range n = sym (mapped (range_with_len 0 (n + 1))) ∙ map-range_with_len_more (λ x. x) 0 n n (omega arith) ∙ ap (λ (l : List ℕ). l ++ n ∷ []) (mapped (range_with_len 0 n))

pub flat_range_step : {A C : Type 0} (f : A → C) (g : ℕ → List C) (old new : List A) (n : ℕ) → map f new ≡ map f old ++ g n → map f old ≡ flat_map g (range_with_len 0 n) → map f new ≡ flat_map g (range_with_len 0 (n + 1))
flat_range_step {C = C} f g old new n e before =
    e ∙ ap (λ (l : List C). l ++ g n) before
    ∙ sym (ap (flat_map g) (one_range n) ∙ flat_map-append g (range_with_len 0 n) (n ∷ []) ∙ ap (λ (l : List C). flat_map g (range_with_len 0 n) ++ l) (append-nil (g n)))

near : (i j : ℕ) → i ≤ j → (i ≡ j) ⊎ (i < j)
near i j le = grind arith

-- numbers that rise don't fall
pub rises : (xs : List ℕ) → IsStrictlyIncreasing xs → IsNonDecreasing xs
rises xs up = λ i j d le lt. ⊎_elim
    (λ (same : i ≡ j). omega (arith, ap (λ (k : ℕ). get_or xs k d) same))
    (λ (less : i < j). let l = AllPairs-from_increasing xs up i j d less lt in omega (arith, l))
    (near i j le)
