-- Lists that grow by one.
use Rattle.std.proofs.Common.{◌≡◌, ◌<◌, ◌≤◌, ◌++◌, ◌∷◌, [], ℕ, List, Option, Some, String, Global, get_or, length, map, option_map, string_bytes, subst, ap, ap₂, sym, ◌∙◌, refl}
use Rattle.std.proofs.lemmas.List.{length-map}
use Rattle.std.proofs.lemmas.Option.{get_or_from_slice_get, slice_get-get_or, slice_get-map, slice_get_within}
use Rattle.text_layouts.specs.Names.{IsByDigits, IsTwice, number_of, numbers_of}
use Rattle.text_layouts.specs.Seats.{kept}
use Rattle.std.specs.List.{slice_get}
use Rattle.run_inputs.specs.Prepared.{AreAt}

pub map_push : {X Y : Type 0} (f : X → Y) (xs : List X) (x : X) → map f (xs ++ x ∷ []) ≡ map f xs ++ f x ∷ []
map_push f [] x = refl
map_push {Y = Y} f (y ∷ xs) x = ap (λ (l : List Y). f y ∷ l) (map_push f xs x)

pub at_more : (names : List (List ℕ)) (places : List ℕ) (place : ℕ) (ordered : List (List ℕ)) (name : List ℕ) → AreAt names places ordered → slice_get names place ≡ Some name
    → AreAt names (places ++ place ∷ []) (ordered ++ name ∷ [])
at_more names places place ordered name are is =
    map_push (λ p. slice_get names p) places place
    ∙ ap₂ (λ (front : List (Option (List ℕ))) (last : Option (List ℕ)). front ++ last ∷ []) are is
    ∙ sym (map_push (λ n. Some n) ordered name)

-- ---- the digits at the ends of names

names_length : (names : List (String Global)) → length (numbers_of (map string_bytes names)) ≡ length names
names_length names = length-map (map string_bytes names) number_of ∙ length-map names string_bytes

-- each rank's place is that of a name
pub placed : (names : List (String Global)) (order : List ℕ) → IsByDigits (numbers_of (map string_bytes names)) order → (k d : ℕ) → k < length order → get_or order k d < length names
placed names order h k d lt =
    let numbers = numbers_of (map string_bytes names) in
    let each = h.each k (subst (λ (n : ℕ). k < n) h.whole lt) in
    let at : get_or order k d ≡ each.0 = get_or_from_slice_get order k each.0 d each.1 in
    let within : each.0 < length numbers = slice_get_within numbers each.0 (Some k) each.2 in
    subst (λ (n : ℕ). get_or order k d < n) (names_length names) (subst (λ (p : ℕ). p < length numbers) (sym at) within)

pub twice_within : (names : List (String Global)) (first second : ℕ) → IsTwice (numbers_of (map string_bytes names)) first second → second < length names
twice_within names first second h =
    subst (λ (n : ℕ). second < n) (names_length names) (slice_get_within (numbers_of (map string_bytes names)) second (Some h.number) h.other)

-- the bytes of the name at a place
pub name_at : (names : List (String Global)) (k : ℕ) (name : String Global) → k < length names → name ≡ get_or names k name → slice_get (map string_bytes names) k ≡ Some (string_bytes name)
name_at names k name lt is = slice_get-map string_bytes names k ∙ ap (option_map string_bytes) (slice_get-get_or names k name lt ∙ ap Some (sym is))

-- the text of the rank of a place
pub seat_at : (seats : List (Option (String Global))) (k : ℕ) (seat : Option (String Global)) → k < length seats → seat ≡ get_or seats k seat → slice_get (kept seats) k ≡ Some (option_map string_bytes seat)
seat_at seats k seat lt is = slice_get-map (option_map string_bytes) seats k ∙ ap (option_map (option_map string_bytes)) (slice_get-get_or seats k seat lt ∙ ap Some (sym is))

-- how many names there are
pub names_within : (names : List (String Global)) (words : List (List ℕ)) (most : ℕ) → map string_bytes names ≡ words → length names ≤ most → length words ≤ most
names_within names words most is le = subst (λ (ws : List (List ℕ)). length ws ≤ most) is (subst (λ (n : ℕ). n ≤ most) (sym (length-map names string_bytes)) le)
