-- Values that are put one after another, as those of files.
use Rattle.std.proofs.Common.{◌≡◌, ◌<◌, ◌≤◌, ◌+◌, ℕ, zero, suc, List, [], ◌∷◌, ◌++◌, Result, Ok, Err, OnOk, take, get_or, length, refl, sym, subst, ◌∙◌, ap, arith, append_assoc, append-nil}
use Rattle.std.specs.List.{flat_map}
use Rattle.std.proofs.lemmas.Grind.{flat_map-append}
use Rattle.json.specs.Json.{Json}
use Rattle.json.specs.Token.{Token, begin_array, end_array}
use Rattle.json.specs.Tree.{items_tokens, json_tokens}
use Rattle.json.specs.Written.{Writes, Written}
use Rattle.run_files.specs.Values.{Puts, items_of}

-- the tokens of the values of a list
abbrev pub tokens_of : {X : Type 0} → (X → Json) → List X → List Token
tokens_of value xs = flat_map (λ x. json_tokens (value x)) xs

-- ..with the end of the array
pub array_tokens : {X : Type 0} (value : X → Json) (xs : List X) → items_tokens (items_of value xs) ≡ tokens_of value xs ++ end_array ∷ []
array_tokens value [] = refl
array_tokens value (x ∷ xs) = ap (λ (ts : List Token). json_tokens (value x) ++ ts) (array_tokens value xs) ∙ sym (append_assoc (json_tokens (value x)) (tokens_of value xs) (end_array ∷ []))

take_next : {X : Type 0} (xs : List X) (i : ℕ) (d : X) → i < length xs → take (i + 1) xs ≡ take i xs ++ get_or xs i d ∷ []
take_next [] i d h = absurd (omega (arith, h))
take_next (y ∷ xs) zero d h = refl
take_next {X = X} (y ∷ xs) (suc i) d h =
    let n : suc i + 1 ≡ suc (i + 1) = omega arith in
    ap (λ (k : ℕ). take k (y ∷ xs)) n ∙ ap (λ (l : List X). y ∷ l) (take_next xs i d (omega (arith, h)))

-- one value more
pub next_tokens : {X : Type 0} (value : X → Json) (xs : List X) (i : ℕ) (d : X) → i < length xs → tokens_of value (take (i + 1) xs) ≡ tokens_of value (take i xs) ++ json_tokens (value (get_or xs i d))
next_tokens {X = X} value xs i d h =
    ap (λ (l : List X). tokens_of value l) (take_next xs i d h)
    ∙ flat_map-append (λ x. json_tokens (value x)) (take i xs) (get_or xs i d ∷ [])
    ∙ ap (λ (ts : List Token). tokens_of value (take i xs) ++ ts) (append-nil (json_tokens (value (get_or xs i d))))

-- ---- one thing after another

-- a token
pub one : {E : Type 0} {r : Result (Unit {0}) E} {old new : Written} {t : Token} → Writes r old new t → Puts r old new (t ∷ [])
one w = record { before = w.room.0; put = w.ok }

-- what was put before
pub so_far : {E : Type 0} {old new : Written} {ts : List Token} → new.before ≡ old.before → new.tokens ≡ old.tokens ++ ts → Puts {E = E} (Ok tt) old new ts
so_far before put = record { before = before; put = put }

then_put : {E : Type 0} (r : Result (Unit {0}) E) (old mid new xs ys : List Token) → mid ≡ old ++ xs → OnOk r (new ≡ mid ++ ys) → OnOk r (new ≡ old ++ (xs ++ ys))
then_put (Ok u) old mid new xs ys e h = h ∙ ap (λ (l : List Token). l ++ ys) e ∙ append_assoc old xs ys
then_put (Err x) old mid new xs ys e h = h

-- and then something else
pub then : {E : Type 0} {r : Result (Unit {0}) E} {old mid new : Written} {xs ys : List Token} → Puts {E = E} (Ok tt) old mid xs → Puts r mid new ys → Puts r old new (xs ++ ys)
then {r = r} {old} {mid} {new} {xs} {ys} p q = record {
  before = q.before ∙ p.before;
  put = then_put r old.tokens mid.tokens new.tokens xs ys p.put q.put;
}

-- what was put reads so
pub reads : {E : Type 0} {r : Result (Unit {0}) E} {old new : Written} {xs ys : List Token} → Puts r old new xs → xs ≡ ys → Puts r old new ys
reads {r = r} {old} {new} p e = subst (λ (l : List Token). Puts r old new l) e p

take_all : {X : Type 0} (xs : List X) (i : ℕ) → length xs ≤ i → take i xs ≡ xs
take_all [] zero h = refl
take_all [] (suc i) h = refl
take_all (x ∷ xs) zero h = absurd (omega (arith, h))
take_all {X = X} (x ∷ xs) (suc i) h = ap (λ (l : List X). x ∷ l) (take_all xs i (omega (arith, h)))

-- a whole array
pub whole_array : {X : Type 0} (value : X → Json) (xs : List X) (i : ℕ) → length xs ≤ i → begin_array ∷ tokens_of value (take i xs) ++ end_array ∷ [] ≡ begin_array ∷ items_tokens (items_of value xs)
whole_array {X = X} value xs i h = ap (λ (l : List X). begin_array ∷ tokens_of value l ++ end_array ∷ []) (take_all xs i h) ∙ ap (λ (ts : List Token). begin_array ∷ ts) (sym (array_tokens value xs))
