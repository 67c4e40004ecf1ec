-- A list gone through line by line.
use Rattle.std.proofs.Common.{◌≡◌, ◌<◌, ◌≤◌, ◌+◌, ℕ, Bool, true, false, List, [], ◌∷◌, ◌++◌, cond, take, get_or, length, length-append, filter, nat_lt, refl, sym, ◌∙◌, ap, arith, append_assoc, append-nil}
use Rattle.std.specs.List.{flat_map}
use Rattle.std.proofs.lemmas.Bool.{ltb-false, ltb-true}
use Rattle.std.proofs.lemmas.List.{take_more, take-append-le, take_all}
use Rattle.std.proofs.lemmas.List.Elements.{filter-append}

pub take_next : {X : Type 0} (xs : List X) (i : ℕ) (x : X) → i < length xs → x ≡ get_or xs i x → take (i + 1) xs ≡ take i xs ++ x ∷ []
take_next {X = X} xs i x lt e = take_more xs i x lt ∙ ap (λ (y : X). take i xs ++ y ∷ []) (sym e)

pub lines_push : {X Y : Type 0} (f : X → List Y) (xs : List X) (x : X) → flat_map f (xs ++ x ∷ []) ≡ flat_map f xs ++ f x
lines_push f [] x = append-nil (f x)
lines_push {Y = Y} f (y ∷ xs) x = ap (λ (l : List Y). f y ++ l) (lines_push f xs x) ∙ sym (append_assoc (f y) (flat_map f xs) (f x))

-- one line more
pub lines_next : {X : Type 0} (f : X → List ℕ) (xs : List X) (i : ℕ) (d : X) → i < length xs → flat_map f (take (i + 1) xs) ≡ flat_map f (take i xs) ++ f (get_or xs i d)
lines_next {X = X} f xs i d h = ap (λ (l : List X). flat_map f l) (take_more xs i d h) ∙ lines_push f (take i xs) (get_or xs i d)

-- what passes, of one more
passed : {X : Type 0} (p : X → Bool) (x : X) → p x ≡ true → filter p (x ∷ []) ≡ x ∷ []
passed {X = X} p x e = ap (λ (b : Bool). cond b (x ∷ []) []) e

failed : {X : Type 0} (p : X → Bool) (x : X) → p x ≡ false → filter p (x ∷ []) ≡ []
failed {X = X} p x e = ap (λ (b : Bool). cond b (x ∷ []) []) e

pub filter_more : {X : Type 0} (p : X → Bool) (xs : List X) (i : ℕ) (x : X) → i < length xs → x ≡ get_or xs i x → p x ≡ true → filter p (take (i + 1) xs) ≡ filter p (take i xs) ++ x ∷ []
filter_more p xs i x lt e is = ap (filter p) (take_next xs i x lt e) ∙ filter-append p (take i xs) (x ∷ []) ∙ ap (λ l. filter p (take i xs) ++ l) (passed p x is)

pub filter_less : {X : Type 0} (p : X → Bool) (xs : List X) (i : ℕ) (x : X) → i < length xs → x ≡ get_or xs i x → p x ≡ false → filter p (take (i + 1) xs) ≡ filter p (take i xs)
filter_less p xs i x lt e is = ap (filter p) (take_next xs i x lt e) ∙ filter-append p (take i xs) (x ∷ []) ∙ ap (λ l. filter p (take i xs) ++ l) (failed p x is) ∙ append-nil (filter p (take i xs))

-- one line more, of an item
pub lines_item : {X Y : Type 0} (f : X → List Y) (xs : List X) (i : ℕ) (x : X) → i < length xs → x ≡ get_or xs i x → flat_map f (take (i + 1) xs) ≡ flat_map f (take i xs) ++ f x
lines_item {X = X} f xs i x lt e = ap (λ (l : List X). flat_map f l) (take_next xs i x lt e) ∙ lines_push f (take i xs) x

-- the first of a list, and one more where it is among them
first_few : {X : Type 0} (f : X → List ℕ) (most : ℕ) (xs : List X) (x : X) → length xs < most → flat_map f (take most xs) ++ f x ≡ flat_map f (take most (xs ++ x ∷ []))
first_few {X = X} f most xs x few =
    ap (λ (l : List X). flat_map f l ++ f x) (take_all most xs (omega arith)) ∙ sym (lines_push f xs x)
    ∙ ap (λ (l : List X). flat_map f l) (sym (take_all most (xs ++ x ∷ []) (omega (arith, length-append xs (x ∷ [])))))

first_many : {X : Type 0} (f : X → List ℕ) (most : ℕ) (xs : List X) (x : X) → most ≤ length xs → flat_map f (take most xs) ++ [] ≡ flat_map f (take most (xs ++ x ∷ []))
first_many {X = X} f most xs x many =
    append-nil (flat_map f (take most xs)) ∙ ap (λ (l : List X). flat_map f l) (sym (take-append-le most xs (x ∷ []) many))

by_room : {X : Type 0} (f : X → List ℕ) (most : ℕ) (xs : List X) (x : X) (b : Bool) → nat_lt (length xs) most ≡ b
    → flat_map f (take most xs) ++ cond b (f x) [] ≡ flat_map f (take most (xs ++ x ∷ []))
by_room f most xs x true e = first_few f most xs x (ltb-true (length xs) most e)
by_room f most xs x false e = first_many f most xs x (ltb-false (length xs) most e)

-- the lines of the first that pass, and that of one more that does
pub shown_more : {X : Type 0} (f : X → List ℕ) (p : X → Bool) (most : ℕ) (xs : List X) (i : ℕ) (x : X) → i < length xs → x ≡ get_or xs i x → p x ≡ true
    → flat_map f (take most (filter p (take i xs))) ++ cond (nat_lt (length (filter p (take i xs))) most) (f x) [] ≡ flat_map f (take most (filter p (take (i + 1) xs)))
shown_more {X = X} f p most xs i x lt e is =
    by_room f most (filter p (take i xs)) x (nat_lt (length (filter p (take i xs))) most) refl
    ∙ ap (λ (l : List X). flat_map f (take most l)) (sym (filter_more p xs i x lt e is))

-- how many pass, with one more that does
pub counted_more : {X : Type 0} (p : X → Bool) (xs : List X) (i : ℕ) (x : X) → i < length xs → x ≡ get_or xs i x → p x ≡ true
    → length (filter p (take i xs)) + 1 ≡ length (filter p (take (i + 1) xs))
counted_more {X = X} p xs i x lt e is =
    sym (length-append (filter p (take i xs)) (x ∷ [])) ∙ ap (λ (l : List X). length l) (sym (filter_more p xs i x lt e is))
