-- What stands at places, one place after the other.
use Rattle.std.proofs.Common.{◌≡◌, ℕ, suc, add-one, ◌+◌, ◌<◌, ◌++◌, List, [], ◌∷◌, Option, Some, None, length, take, get_or, ap, ◌∙◌, sym, append_assoc, append-nil, arith}
use Rattle.std.specs.List.{cons_option, filter_map, flat_map, range_with_len}
use Rattle.std.proofs.lemmas.List.{flat_map_more, take_more, map-id}
use Rattle.std.proofs.lemmas.List.Elements.{filter_map-append}
use Rattle.std.proofs.lemmas.List.FromFn.{map-range_with_len_more}

pub more_some : {X : Type 0} (f : ℕ → Option X) (places : List ℕ) (i : ℕ) (x : X) → i < length places → f (get_or places i 0) ≡ Some x
    → filter_map f (take (i + 1) places) ≡ filter_map f (take i places) ++ x ∷ []
more_some {X} f places i x below e =
    ap (filter_map f) (take_more places i 0 below) ∙ filter_map-append f (take i places) (get_or places i 0 ∷ [])
    ∙ ap (λ (o : Option X). filter_map f (take i places) ++ cons_option o []) e

pub more_none : {X : Type 0} (f : ℕ → Option X) (places : List ℕ) (i : ℕ) → i < length places → f (get_or places i 0) ≡ None
    → filter_map f (take (i + 1) places) ≡ filter_map f (take i places)
more_none {X} f places i below e =
    ap (filter_map f) (take_more places i 0 below) ∙ filter_map-append f (take i places) (get_or places i 0 ∷ [])
    ∙ ap (λ (o : Option X). filter_map f (take i places) ++ cons_option o []) e ∙ append-nil (filter_map f (take i places))

-- one more of the numbers from 0 on
pub numbers_more : (n : ℕ) → range_with_len 0 (n + 1) ≡ range_with_len 0 n ++ n ∷ []
numbers_more n =
    sym (map-id (range_with_len 0 (n + 1))) ∙ map-range_with_len_more (λ (x : ℕ). x) 0 n n (omega arith)
    ∙ ap (λ (l : List ℕ). l ++ n ∷ []) (map-id (range_with_len 0 n))

-- the same of those from another number on
pub numbers_from_more : (first n p : ℕ) → p ≡ first + n → range_with_len first (n + 1) ≡ range_with_len first n ++ p ∷ []
numbers_from_more first n p e =
    sym (map-id (range_with_len first (n + 1))) ∙ map-range_with_len_more (λ (x : ℕ). x) first n p (omega (arith, e))
    ∙ ap (λ (l : List ℕ). l ++ p ∷ []) (map-id (range_with_len first n))

pub numbers_next : (n : ℕ) → range_with_len 0 (suc n) ≡ range_with_len 0 n ++ n ∷ []
numbers_next n = ap (range_with_len 0) (sym (add-one n)) ∙ numbers_more n

-- what one more of those numbers gives, or nothing
pub numbers_some : {X : Type 0} (f : ℕ → Option X) (n : ℕ) (x : X) (before : List X) → f n ≡ Some x
    → (before ++ filter_map f (range_with_len 0 n)) ++ x ∷ [] ≡ before ++ filter_map f (range_with_len 0 (n + 1))
numbers_some {X} f n x before e =
    append_assoc before (filter_map f (range_with_len 0 n)) (x ∷ [])
    ∙ ap (λ (l : List X). before ++ l)
    (sym (ap (filter_map f) (numbers_more n) ∙ filter_map-append f (range_with_len 0 n) (n ∷ []) ∙ ap (λ (o : Option X). filter_map f (range_with_len 0 n) ++ cons_option o []) e))

pub numbers_none : {X : Type 0} (f : ℕ → Option X) (n : ℕ) (before : List X) → f n ≡ None
    → before ++ filter_map f (range_with_len 0 n) ≡ before ++ filter_map f (range_with_len 0 (n + 1))
numbers_none {X} f n before e =
    ap (λ (l : List X). before ++ l)
    (sym (ap (filter_map f) (numbers_more n) ∙ filter_map-append f (range_with_len 0 n) (n ∷ []) ∙ ap (λ (o : Option X). filter_map f (range_with_len 0 n) ++ cons_option o []) e
    ∙ append-nil (filter_map f (range_with_len 0 n))))

pub numbers_joined : {X : Type 0} (f : ℕ → List X) (n : ℕ) → flat_map f (range_with_len 0 n) ++ f n ≡ flat_map f (range_with_len 0 (n + 1))
numbers_joined {X} f n = flat_map_more f [] (range_with_len 0 n) n ∙ ap (flat_map f) (sym (numbers_more n))
