-- A function of a name, searched from the front of a list.
use Rattle.std.proofs.Common.{◌≡◌, ◌∙◌, ◌<◌, ◌≤◌, ◌||◌, ◌++◌, ℕ, zero, suc, Bool, true, false, cond, List, [], ◌∷◌, Option, Some, None, option_map, length, is_some, nat_lt, take, set, get_or, refl, sym, ap, subst, arith}
use Rattle.std.specs.Str.{bytes_eq}
use Rattle.text_notes.specs.Noted.{UnreadParts, counted, with_count}
use Rattle.std.proofs.lemmas.Bool.{le-ltb, lt-ltb}
use Rattle.text_notes.specs.Places.{first_where, place_of}
use Rattle.text_notes.specs.Words.{Totals, added, all_added}
use Rattle.text_notes.specs.declared.totals.TheConstants.{MOST_SHOWN}
use Rattle.text_notes.specs.Noted.{sum_of}

-- the place in a list, by that in its rest
behind : (b : Bool) (p q : Option ℕ) (i : ℕ) → cond b (Some zero) (option_map suc p) ≡ None → (p ≡ None → q ≡ Some i) → cond b (Some zero) (option_map suc q) ≡ Some (suc i)
behind true p q i e h = cc
behind false None q i e h = ap (option_map suc) (h refl)
behind false (Some j) q i e h = cc

none_behind : (b : Bool) (p q : Option ℕ) → cond b (Some zero) (option_map suc p) ≡ None → (p ≡ None → q ≡ None) → cond b (Some zero) (option_map suc q) ≡ None
none_behind true p q e h = cc
none_behind false None q e h = ap (option_map suc) (h refl)
none_behind false (Some j) q e h = cc

-- none so far, and this one
pub found : {X : Type 0} (p : X → Bool) (xs : List X) (i : ℕ) (x : X) → i < length xs → x ≡ get_or xs i x
    → first_where p (take i xs) ≡ None → p x ≡ true → first_where p xs ≡ Some i
found p [] i x lt e before is = absurd (omega arith)
found p (y ∷ xs) zero x lt e before is = ap (λ (t : Bool). cond t (Some zero) (option_map suc (first_where p xs))) (ap p (sym e) ∙ is)
found p (y ∷ xs) (suc i) x lt e before is =
    behind (p y) (first_where p (take i xs)) (first_where p xs) i before (λ none. found p xs i x (omega arith) e none is)

-- none so far, and not this one
pub none_next : {X : Type 0} (p : X → Bool) (xs : List X) (i : ℕ) (x : X) → i < length xs → x ≡ get_or xs i x
    → first_where p (take i xs) ≡ None → p x ≡ false → first_where p (take (suc i) xs) ≡ None
none_next p [] i x lt e before not = absurd (omega arith)
none_next p (y ∷ xs) zero x lt e before not = ap (λ (t : Bool). cond t (Some zero) None) (ap p (sym e) ∙ not)
none_next p (y ∷ xs) (suc i) x lt e before not =
    none_behind (p y) (first_where p (take i xs)) (first_where p (take (suc i) xs)) before (λ none. none_next p xs i x (omega arith) e none not)

last_of : (number count : ℕ) (name : List ℕ) (f : UnreadParts) (fs rest : List UnreadParts) (b : Bool) (p : Option ℕ) → cond b (Some zero) (option_map suc p) ≡ None
    → (p ≡ None → rest ≡ fs ++ record { name = name; first = number; count = count } ∷ [])
    → cond b (with_count count f ∷ fs) (f ∷ rest) ≡ f ∷ fs ++ record { name = name; first = number; count = count } ∷ []
last_of number count name f fs rest true p e h = cc
last_of number count name f fs rest false None e h = ap (λ (l : List UnreadParts). f ∷ l) (h refl)
last_of number count name f fs rest false (Some i) e h = cc

-- a function that isn't listed comes last
pub counted_last : (number count : ℕ) (name : List ℕ) (fs : List UnreadParts) → place_of name fs ≡ None
    → counted number count name fs ≡ fs ++ record { name = name; first = number; count = count } ∷ []
counted_last number count name [] e = refl
counted_last number count name (f ∷ fs) e =
    last_of number count name f fs (counted number count name fs) (bytes_eq f.name name) (place_of name fs) e (counted_last number count name fs)

-- the first of a list
at_first : (count : ℕ) (f d : UnreadParts) (fs : List UnreadParts) (i : ℕ) → Some zero ≡ Some i → with_count count f ∷ fs ≡ set (f ∷ fs) i (with_count count (get_or (f ∷ fs) i d))
at_first count f d fs zero e = refl
at_first count f d fs (suc i) e = let z : zero ≡ suc i = cc in absurd (omega arith)

at_place : (count : ℕ) (f d : UnreadParts) (fs rest : List UnreadParts) (b : Bool) (p : Option ℕ) (i : ℕ) → cond b (Some zero) (option_map suc p) ≡ Some i
    → ((j : ℕ) → p ≡ Some j → rest ≡ set fs j (with_count count (get_or fs j d)))
    → cond b (with_count count f ∷ fs) (f ∷ rest) ≡ set (f ∷ fs) i (with_count count (get_or (f ∷ fs) i d))
at_place count f d fs rest true p i e h = at_first count f d fs i e
at_place count f d fs rest false None i e h = cc
at_place count f d fs rest false (Some j) i e h =
    let s : suc j ≡ i = cc in
    subst (λ (n : ℕ). f ∷ rest ≡ set (f ∷ fs) n (with_count count (get_or (f ∷ fs) n d))) s (ap (λ (l : List UnreadParts). f ∷ l) (h j refl))

-- a function that is listed has so many calls more
pub counted_at : (number count : ℕ) (name : List ℕ) (fs : List UnreadParts) (i : ℕ) (d : UnreadParts) → place_of name fs ≡ Some i
    → counted number count name fs ≡ set fs i (with_count count (get_or fs i d))
counted_at number count name [] i d e = cc
counted_at number count name (f ∷ fs) i d e =
    at_place count f d fs (counted number count name fs) (bytes_eq f.name name) (place_of name fs) i e (λ j is. counted_at number count name fs j d is)

is_within : (b : Bool) (p : Option ℕ) (i n : ℕ) → cond b (Some zero) (option_map suc p) ≡ Some i → ((j : ℕ) → p ≡ Some j → j < n) → i < suc n
is_within true p i n e h = let z : zero ≡ i = cc in omega arith
is_within false None i n e h = cc
is_within false (Some j) i n e h = let s : suc j ≡ i = cc in let l : j < n = h j refl in omega arith

-- it is one of the list
pub within : (name : List ℕ) (fs : List UnreadParts) (i : ℕ) → place_of name fs ≡ Some i → i < length fs
within name [] i e = cc
within name (f ∷ fs) i e = is_within (bytes_eq f.name name) (place_of name fs) i (length fs) e (λ j is. within name fs j is)

-- ---- totals, with the calls of one function more

by_place : (t : Totals) (f : UnreadParts) (p : Option ℕ) (b : Bool) → place_of f.name t.functions ≡ p → nat_lt (length t.functions) MOST_SHOWN ≡ b
    → added t f ≡ cond (is_some p || b) (record { functions = counted f.first f.count f.name t.functions; others = t.others }) (record { functions = t.functions; others = sum_of t.others f.count })
by_place t f p b e room =
    ap (λ (o : Option ℕ). cond (is_some o || nat_lt (length t.functions) MOST_SHOWN) (record { functions = counted f.first f.count f.name t.functions; others = t.others }) (record { functions = t.functions; others = sum_of t.others f.count })) e
    ∙ ap (λ (c : Bool). cond (is_some p || c) (record { functions = counted f.first f.count f.name t.functions; others = t.others }) (record { functions = t.functions; others = sum_of t.others f.count })) room

-- one that is listed
pub added_at : (t : Totals) (f : UnreadParts) (i : ℕ) (d : UnreadParts) → place_of f.name t.functions ≡ Some i
    → added t f ≡ record { functions = set t.functions i (with_count f.count (get_or t.functions i d)); others = t.others }
added_at t f i d e =
    by_place t f (Some i) (nat_lt (length t.functions) MOST_SHOWN) e refl
    ∙ ap (λ (fs : List UnreadParts). record { functions = fs; others = t.others }) (counted_at f.first f.count f.name t.functions i d e)

-- one that isn't, where there is room
pub added_last : (t : Totals) (f : UnreadParts) → place_of f.name t.functions ≡ None → length t.functions < MOST_SHOWN
    → added t f ≡ record { functions = t.functions ++ f ∷ []; others = t.others }
added_last t f e room =
    by_place t f None true e (lt-ltb (length t.functions) MOST_SHOWN room)
    ∙ ap (λ (fs : List UnreadParts). record { functions = fs; others = t.others }) (counted_last f.first f.count f.name t.functions e)

-- one that isn't, where there is none
pub added_beside : (t : Totals) (f : UnreadParts) → place_of f.name t.functions ≡ None → MOST_SHOWN ≤ length t.functions
    → added t f ≡ record { functions = t.functions; others = sum_of t.others f.count }
added_beside t f e full = by_place t f None false e (le-ltb (length t.functions) MOST_SHOWN full)

-- those of some functions and of more
pub added_more : (t : Totals) (fs gs : List UnreadParts) → all_added t (fs ++ gs) ≡ all_added (all_added t fs) gs
added_more t [] gs = refl
added_more t (f ∷ fs) gs = added_more (added t f) fs gs
