-- The text of each rank, one more.
use Rattle.std.proofs.Common.{◌≡◌, ◌∙◌, ◌<◌, ◌≤◌, ◌+◌, ℕ, zero, suc, List, [], ◌∷◌, ◌++◌, Option, Some, None, String, Global, append-nil, append_assoc, ap, ap₂, arith, get_or, length, map, option_map, refl, string_bytes, sym, take}
use Rattle.std.proofs.lemmas.List.{take_all}
use Rattle.std.proofs.lemmas.Option.{slice_get-get_or, slice_get-map}
use Rattle.std.specs.List.{slice_get}
use Rattle.text_layouts.specs.Seats.{from_rank, kept, text_of, texts_upto}
use Rattle.text_layouts.proofs.Lines.{take_next}

pub map_push : {X Y : Type 0} (f : X → Y) (xs : List X) (x : X) → map f (xs ++ x ∷ []) ≡ map f xs ++ f x ∷ []
map_push f [] x = refl
map_push {Y = Y} f (y ∷ xs) x = ap (λ (l : List Y). f y ∷ l) (map_push f xs x)

from_more : {X : Type 0} (one : ℕ → Option (List ℕ) → List X) (rank : ℕ) (seats : List (Option (List ℕ))) (seat : Option (List ℕ))
    → from_rank one rank (seats ++ seat ∷ []) ≡ from_rank one rank seats ++ one (rank + length seats) seat
from_more {X = X} one rank [] seat = let here : rank ≡ rank + 0 = omega arith in append-nil (one rank seat) ∙ ap (λ (r : ℕ). one r seat) here
from_more {X = X} one rank (s ∷ seats) seat =
    let at : rank + 1 + length seats ≡ rank + suc (length seats) = omega arith in
    ap (λ (ts : List X). one rank s ++ ts)
    (from_more one (rank + 1) seats seat ∙ ap (λ (r : ℕ). from_rank one (rank + 1) seats ++ one r seat) at)
    ∙ sym (append_assoc (one rank s) (from_rank one (rank + 1) seats) (one (rank + suc (length seats)) seat))

length_of_front : (seats : List (Option (String Global))) (i : ℕ) → i ≤ length seats → length (kept (take i seats)) ≡ i
length_of_front seats zero h = refl
length_of_front [] (suc i) h = absurd (omega (arith, h))
length_of_front (s ∷ seats) (suc i) h = let n = length_of_front seats i (omega (arith, h)) in omega (arith, n)

pub one_seat_more : {X : Type 0} (one : ℕ → Option (List ℕ) → List X) (seats : List (Option (String Global))) (i : ℕ) (seat : Option (String Global)) → i < length seats → seat ≡ get_or seats i seat
    → from_rank one 0 (kept (take (i + 1) seats)) ≡ from_rank one 0 (kept (take i seats)) ++ one i (option_map string_bytes seat)
one_seat_more {X = X} one seats i seat lt e =
    let n : 0 + length (kept (take i seats)) ≡ i = let l = length_of_front seats i (omega (arith, lt)) in omega (arith, l) in
    ap (λ (ss : List (Option (String Global))). from_rank one 0 (kept ss)) (take_next seats i seat lt e)
    ∙ ap (λ (ss : List (Option (List ℕ))). from_rank one 0 ss) (map_push (option_map string_bytes) (take i seats) seat)
    ∙ from_more one 0 (kept (take i seats)) (option_map string_bytes seat)
    ∙ ap (λ (r : ℕ). from_rank one 0 (kept (take i seats)) ++ one r (option_map string_bytes seat)) n

pub all_seats : {X : Type 0} (one : ℕ → Option (List ℕ) → List X) (seats : List (Option (String Global))) (i : ℕ) → length seats ≤ i → from_rank one 0 (kept (take i seats)) ≡ from_rank one 0 (kept seats)
all_seats one seats i h = ap (λ (ss : List (Option (String Global))). from_rank one 0 (kept ss)) (take_all i seats h)

-- the text of one rank more
pub one_rank_more : (numbers : List (Option ℕ)) (names : List (List ℕ)) (seats : List (Option (String Global))) (seat : Option (String Global)) (rank : ℕ)
    → kept seats ≡ texts_upto numbers names rank → option_map string_bytes seat ≡ text_of numbers names rank → kept (seats ++ seat ∷ []) ≡ texts_upto numbers names (rank + 1)
one_rank_more numbers names seats seat rank before is =
    let next : suc rank ≡ rank + 1 = omega arith in
    map_push (option_map string_bytes) seats seat
    ∙ ap₂ (λ (front : List (Option (List ℕ))) (last : Option (List ℕ)). front ++ last ∷ []) before is
    ∙ ap (texts_upto numbers names) next

-- the name at a place
pub name_there : (names : List (String Global)) (place : ℕ) (name : String Global) → place < length names → name ≡ get_or names place name → slice_get (map string_bytes names) place ≡ Some (string_bytes name)
name_there names place name lt is = slice_get-map string_bytes names place ∙ ap (option_map string_bytes) (slice_get-get_or names place name lt ∙ ap Some (sym is))

pub name_past : (names : List (String Global)) (place : ℕ) → length names ≤ place → slice_get (map string_bytes names) place ≡ None
name_past [] place h = refl
name_past (n ∷ names) zero h = absurd (omega (arith, h))
name_past (n ∷ names) (suc place) h = name_past names place (omega (arith, h))
