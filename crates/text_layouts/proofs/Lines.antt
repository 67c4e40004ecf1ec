-- A list gone through line by line.
use Rattle.std.proofs.Common.{◌≡◌, ◌<◌, ◌≤◌, ◌+◌, ℕ, List, [], ◌∷◌, ◌++◌, map, take, get_or, length, refl, sym, ◌∙◌, ap, append_assoc, append-nil}
use Rattle.std.specs.List.{flat_map}
use Rattle.std.proofs.lemmas.List.{take_all, take_more}

pub take_next : {X : Type 0} (xs : List X) (i : ℕ) (x : X) → i < length xs → x ≡ get_or xs i x → take (i + 1) xs ≡ take i xs ++ x ∷ []
take_next {X = X} xs i x lt e = take_more xs i x lt ∙ ap (λ (y : X). take i xs ++ y ∷ []) (sym e)

lines_push : {X Y : Type 0} (f : X → List Y) (xs : List X) (x : X) → flat_map f (xs ++ x ∷ []) ≡ flat_map f xs ++ f x
lines_push f [] x = append-nil (f x)
lines_push {Y = Y} f (y ∷ xs) x = ap (λ (l : List Y). f y ++ l) (lines_push f xs x) ∙ sym (append_assoc (f y) (flat_map f xs) (f x))

-- one line more, of an item
pub lines_item : {X Y : Type 0} (f : X → List Y) (xs : List X) (i : ℕ) (x : X) → i < length xs → x ≡ get_or xs i x → flat_map f (take (i + 1) xs) ≡ flat_map f (take i xs) ++ f x
lines_item {X = X} f xs i x lt e = ap (λ (l : List X). flat_map f l) (take_next xs i x lt e) ∙ lines_push f (take i xs) x

pub lines_next : {X : Type 0} (f : X → List ℕ) (xs : List X) (i : ℕ) (d : X) → i < length xs → flat_map f (take (i + 1) xs) ≡ flat_map f (take i xs) ++ f (get_or xs i d)
lines_next {X = X} f xs i d h = ap (λ (l : List X). flat_map f l) (take_more xs i d h) ∙ lines_push f (take i xs) (get_or xs i d)

both_maps : {X Y Z : Type 0} (f : X → Y) (g : Y → Z) (xs : List X) → map (λ x. g (f x)) xs ≡ map g (map f xs)
both_maps f g [] = refl
both_maps {Z = Z} f g (x ∷ xs) = ap (λ (l : List Z). g (f x) ∷ l) (both_maps f g xs)

-- all items were gone through
pub all_mapped : {X Y Z : Type 0} (f : X → Y) (g : Y → Z) (xs : List X) (i : ℕ) (made : List Z) → length xs ≤ i → made ≡ map (λ x. g (f x)) (take i xs) → made ≡ map g (map f xs)
all_mapped {X = X} f g xs i made end is = is ∙ ap (λ (l : List X). map (λ x. g (f x)) l) (take_all i xs end) ∙ both_maps f g xs
