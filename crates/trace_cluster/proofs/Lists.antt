-- Lists: what holds of each element, and what stands in front.
use Rattle.std.proofs.Common.{◌≡◌, Result, Ok, Err, IfOk, IfErr, List, [], ◌∷◌, ◌++◌, refl, arith}
use Rattle.std.specs.List.{AllByRecursion, Contains}

-- a list with an element is not one without
pub no_element : {T : Type 0} (x : T) (xs : List T) → x ∷ xs ≡ [] → ⊥
no_element x xs e = let z = e in cc

pub nil_first : {T : Type 0} (xs ys : List T) → xs ++ ys ≡ [] → xs ≡ []
nil_first [] ys e = refl
nil_first (x ∷ xs) ys e = absurd (no_element x (xs ++ ys) e)

pub nil_rest : {T : Type 0} (xs ys : List T) → xs ++ ys ≡ [] → ys ≡ []
nil_rest [] ys e = e
nil_rest (x ∷ xs) ys e = absurd (no_element x (xs ++ ys) e)

pub same_first : {T : Type 0} (x y : T) (xs ys : List T) → x ∷ xs ≡ y ∷ ys → x ≡ y
same_first x y xs ys e = let z = e in cc

-- what holds of each of two lists, and of each of the one
pub front : {T : Type 0} (P : T → Type 0) (xs ys : List T) → AllByRecursion P (xs ++ ys) → AllByRecursion P xs
front P [] ys h = tt
front P (x ∷ xs) ys h = (h.0, front P xs ys h.1)

pub back : {T : Type 0} (P : T → Type 0) (xs ys : List T) → AllByRecursion P (xs ++ ys) → AllByRecursion P ys
back P [] ys h = h
back P (x ∷ xs) ys h = back P xs ys h.1

pub contains_first : {T : Type 0} (x : T) (xs : List T) → Contains (x ∷ xs) x
contains_first x xs = (0, omega arith, refl)

pub contains_none : {T : Type 0} (x : T) → Contains [] x → ⊥
contains_none x c = absurd (omega (arith, c.1))

-- ---- answers

-- what holds of an answer, where something follows from it
pub given : {T E : Type 0} {P Q : T → Type 0} (r : Result T E) → IfOk r P → ((x : T) → P x → Q x) → IfOk r Q
given (Ok x) h f = f x h
given (Err e) h f = tt

pub given_not : {T E : Type 0} {P Q : E → Type 0} (r : Result T E) → IfErr r P → ((e : E) → P e → Q e) → IfErr r Q
given_not (Ok x) h f = tt
given_not (Err e) h f = f e h
