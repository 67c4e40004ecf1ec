-- Grids, one dimension after the other.
use Rattle.std.proofs.Common.{◌≡◌, ◌≢◌, ℕ, ◌+◌, ◌*◌, ◌-◌, ◌/◌, ◌%◌, ◌^◌, ◌<◌, ◌≤◌, ◌&&◌, ◌++◌, Bool, true, false, List, [], ◌∷◌, Option, Some, None, cond, map, length, take, drop, get_or, refl, arith, ap, ◌∙◌, sym, ⊎_elim, nat_lt, nat_le, append-nil, append_assoc, add_assoc}
use Rattle.std.proofs.Math.Nat.{mul_assoc, mul-le-mul_left, mul-pos, mul-div_cancel_left}
use Rattle.std.specs.List.{list_all, range_with_len}
use Rattle.std.proofs.lemmas.Bool.{and_parts, and_left, cases_Bool, lt-leb, le-leb, lt-ltb, ltb-true, true≢false}
use Rattle.std.proofs.lemmas.List.{drop_more, take-append-drop, take_more}
use Rattle.std.proofs.lemmas.List.Folds.{list_all-append, list_all_at, list_all_more}
use Rattle.std.proofs.lemmas.List.FromFn.{map-range_with_len_more}
use Rattle.std.proofs.lemmas.Nat.{div-add-mod'}
use Rattle.comm_groups.specs.Grids.{are_sizes, first_alike, grid_size, kept, size_within}

pub grid_size-push : (xs : List ℕ) (d : ℕ) → grid_size (xs ++ d ∷ []) ≡ grid_size xs * d
grid_size-push [] d = omega arith
grid_size-push (x ∷ xs) d = rw (grid_size-push xs d) (sym (mul_assoc x (grid_size xs) d))

grid_size-append : (xs ys : List ℕ) → grid_size (xs ++ ys) ≡ grid_size xs * grid_size ys
grid_size-append [] ys = omega arith
grid_size-append (x ∷ xs) ys = rw (grid_size-append xs ys) (sym (mul_assoc x (grid_size xs) (grid_size ys)))

pub some_rank : (dims : List ℕ) → are_sizes dims ≡ true → 0 < grid_size dims
some_rank [] h = omega arith
some_rank (d ∷ dims) h =
    let parts = and_parts (nat_lt 0 d) (are_sizes dims) h in
    mul-pos (ltb-true 0 d parts.0) (some_rank dims parts.1)

sizes_drop : (dims : List ℕ) (n : ℕ) → are_sizes dims ≡ true → are_sizes (drop n dims) ≡ true
sizes_drop dims n h =
    let split : are_sizes (take n dims ++ drop n dims) ≡ (are_sizes (take n dims) && are_sizes (drop n dims)) = list_all-append (λ d. nat_lt 0 d) (take n dims) (drop n dims) in
    (and_parts (are_sizes (take n dims)) (are_sizes (drop n dims)) (sym split ∙ ap are_sizes (take-append-drop n dims) ∙ h)).1

pub size_at : (dims : List ℕ) (i : ℕ) → are_sizes dims ≡ true → i < length dims → 0 < get_or dims i 0
size_at dims i h below =
    ⊎_elim (λ (yes : nat_lt 0 (get_or dims i 0) ≡ true). ltb-true 0 (get_or dims i 0) yes)
    (λ (no : nat_lt 0 (get_or dims i 0) ≡ false). absurd (true≢false (sym h ∙ list_all_at (λ d. nat_lt 0 d) dims i 0 below no)))
    (cases_Bool (nat_lt 0 (get_or dims i 0)))

grid_size-le : (dims : List ℕ) (n : ℕ) → are_sizes dims ≡ true → grid_size (take n dims) ≤ grid_size dims
grid_size-le dims n h =
    let parts : grid_size (take n dims ++ drop n dims) ≡ grid_size (take n dims) * grid_size (drop n dims) = grid_size-append (take n dims) (drop n dims) in
    let whole : grid_size (take n dims ++ drop n dims) ≡ grid_size dims = ap grid_size (take-append-drop n dims) in
    let some : 0 < grid_size (drop n dims) = some_rank (drop n dims) (sizes_drop dims n h) in
    let more : grid_size (take n dims) * 1 ≤ grid_size (take n dims) * grid_size (drop n dims) = mul-le-mul_left (grid_size (take n dims)) some in
    omega arith

none_within : (limit : ℕ) (dims : List ℕ) → (are_sizes dims && nat_le (grid_size dims) limit) ≡ false → None ≡ size_within limit dims
none_within limit dims h = rw h refl

pub too_small : (limit : ℕ) (dims : List ℕ) (i : ℕ) → i < length dims → get_or dims i 0 ≡ 0 → None ≡ size_within limit dims
too_small limit dims i below h =
    none_within limit dims (and_left (are_sizes dims) (nat_le (grid_size dims) limit) (list_all_at (λ d. nat_lt 0 d) dims i 0 below (ap (nat_lt 0) h)))

pub too_large : (limit : ℕ) (dims : List ℕ) (i : ℕ) → i < length dims → limit < grid_size (take i dims) * get_or dims i 0 → None ≡ size_within limit dims
too_large limit dims i below h =
    ⊎_elim
    (λ (sizes : are_sizes dims ≡ true).
    let more : grid_size (take (i + 1) dims) ≡ grid_size (take i dims) * get_or dims i 0 = rw (take_more dims i 0 below) (grid_size-push (take i dims) (get_or dims i 0)) in
    let le : grid_size (take (i + 1) dims) ≤ grid_size dims = grid_size-le dims (i + 1) sizes in
    let large : limit < grid_size dims = omega arith in
    none_within limit dims (ap (λ (b : Bool). b && nat_le (grid_size dims) limit) sizes ∙ lt-leb (grid_size dims) limit large))
    (λ (no : are_sizes dims ≡ false). none_within limit dims (and_left (are_sizes dims) (nat_le (grid_size dims) limit) no))
    (cases_Bool (are_sizes dims))

pub beyond : (limit : ℕ) (dims : List ℕ) → limit < grid_size dims → None ≡ size_within limit dims
beyond limit dims h =
    ⊎_elim
    (λ (sizes : are_sizes dims ≡ true). none_within limit dims (ap (λ (b : Bool). b && nat_le (grid_size dims) limit) sizes ∙ lt-leb (grid_size dims) limit h))
    (λ (no : are_sizes dims ≡ false). none_within limit dims (and_left (are_sizes dims) (nat_le (grid_size dims) limit) no))
    (cases_Bool (are_sizes dims))

pub within : (limit : ℕ) (dims : List ℕ) → are_sizes dims ≡ true → grid_size dims ≤ limit → Some (grid_size dims) ≡ size_within limit dims
within limit dims sizes le = rw (sizes, le-leb (grid_size dims) limit le) refl

pub size_more : (dims : List ℕ) (i : ℕ) → i < length dims → grid_size (take (i + 1) dims) ≡ grid_size (take i dims) * get_or dims i 0
size_more dims i below = rw (take_more dims i 0 below) (grid_size-push (take i dims) (get_or dims i 0))

pub sizes_more : (dims : List ℕ) (i : ℕ) → i < length dims → are_sizes (take i dims) ≡ true → 0 < get_or dims i 0 → are_sizes (take (i + 1) dims) ≡ true
sizes_more dims i below h some = rw (list_all_more (λ d. nat_lt 0 d) dims i 0 below, h) (lt-ltb 0 (get_or dims i 0) some)

-- what is left of the size behind a dimension
pub size_rest : (dims : List ℕ) (i : ℕ) → are_sizes dims ≡ true → i < length dims → grid_size (drop i dims) / get_or dims i 0 ≡ grid_size (drop (i + 1) dims)
size_rest dims i h below =
    let here : grid_size (drop i dims) ≡ get_or dims i 0 * grid_size (drop (i + 1) dims) = ap grid_size (drop_more dims i 0 below) in
    ap (λ (n : ℕ). n / get_or dims i 0) here ∙ mul-div_cancel_left (grid_size (drop (i + 1) dims)) (size_at dims i h below)

pub rest_some : (dims : List ℕ) (i : ℕ) → are_sizes dims ≡ true → 0 < grid_size (drop i dims)
rest_some dims i h = some_rank (drop i dims) (sizes_drop dims i h)

one_alike : (dims : List ℕ) (remain : List Bool) (i left : ℕ) → i < length dims → i < length remain
    → first_alike (drop i dims) (drop i remain) left
    ≡ cond (get_or remain i false) 0 (left / grid_size (drop (i + 1) dims) * grid_size (drop (i + 1) dims)) + first_alike (drop (i + 1) dims) (drop (i + 1) remain) (left % grid_size (drop (i + 1) dims))
one_alike dims remain i left below inside = rw (drop_more dims i 0 below, drop_more remain i false inside) refl

whole_part : (n m : ℕ) → n / m * m ≡ n - n % m
whole_part n m = let e : n / m * m + n % m ≡ n = div-add-mod' n m in omega arith

pub alike_kept : (dims : List ℕ) (remain : List Bool) (i first left : ℕ) → i < length dims → i < length remain → get_or remain i false ≡ true
    → first + first_alike (drop (i + 1) dims) (drop (i + 1) remain) (left % grid_size (drop (i + 1) dims)) ≡ first + first_alike (drop i dims) (drop i remain) left
alike_kept dims remain i first left below inside keep =
    let e : first_alike (drop i dims) (drop i remain) left ≡ cond (get_or remain i false) 0 (left / grid_size (drop (i + 1) dims) * grid_size (drop (i + 1) dims)) + first_alike (drop (i + 1) dims) (drop (i + 1) remain) (left % grid_size (drop (i + 1) dims))
    = one_alike dims remain i left below inside in
    let k : cond (get_or remain i false) 0 (left / grid_size (drop (i + 1) dims) * grid_size (drop (i + 1) dims)) ≡ 0 = rw keep refl in
    omega (arith, e, k)

pub alike_left_out : (dims : List ℕ) (remain : List Bool) (i first left : ℕ) → i < length dims → i < length remain → get_or remain i false ≡ false
    → first + (left - left % grid_size (drop (i + 1) dims)) + first_alike (drop (i + 1) dims) (drop (i + 1) remain) (left % grid_size (drop (i + 1) dims)) ≡ first + first_alike (drop i dims) (drop i remain) left
alike_left_out dims remain i first left below inside keep =
    let e : first_alike (drop i dims) (drop i remain) left ≡ cond (get_or remain i false) 0 (left / grid_size (drop (i + 1) dims) * grid_size (drop (i + 1) dims)) + first_alike (drop (i + 1) dims) (drop (i + 1) remain) (left % grid_size (drop (i + 1) dims))
    = one_alike dims remain i left below inside in
    let k : cond (get_or remain i false) 0 (left / grid_size (drop (i + 1) dims) * grid_size (drop (i + 1) dims)) ≡ left - left % grid_size (drop (i + 1) dims)
    = rw keep (whole_part left (grid_size (drop (i + 1) dims))) in
    omega (arith, e, k)

pub kept_at : (dims : List ℕ) (remain : List Bool) (i : ℕ) → i < length dims → i < length remain
    → kept (drop i remain) (drop i dims) ≡ cond (get_or remain i false) (get_or dims i 0 ∷ kept (drop (i + 1) remain) (drop (i + 1) dims)) (kept (drop (i + 1) remain) (drop (i + 1) dims))
kept_at dims remain i below inside = rw (drop_more dims i 0 below, drop_more remain i false inside) refl

pub kept_more_yes : (dims : List ℕ) (remain : List Bool) (done : List ℕ) (i : ℕ) → i < length dims → i < length remain → get_or remain i false ≡ true
    → (done ++ get_or dims i 0 ∷ []) ++ kept (drop (i + 1) remain) (drop (i + 1) dims) ≡ done ++ kept (drop i remain) (drop i dims)
kept_more_yes dims remain done i below inside keep =
    append_assoc done (get_or dims i 0 ∷ []) (kept (drop (i + 1) remain) (drop (i + 1) dims))
    ∙ ap (λ (l : List ℕ). done ++ l) (sym (kept_at dims remain i below inside ∙ rw keep refl))

pub kept_more_no : (dims : List ℕ) (remain : List Bool) (done : List ℕ) (i : ℕ) → i < length dims → i < length remain → get_or remain i false ≡ false
    → done ++ kept (drop (i + 1) remain) (drop (i + 1) dims) ≡ done ++ kept (drop i remain) (drop i dims)
kept_more_no dims remain done i below inside lost = ap (λ (l : List ℕ). done ++ l) (sym (kept_at dims remain i below inside ∙ rw lost refl))

pub rest_le : (n m : ℕ) → n % m ≤ n
rest_le n m = let e : n / m * m + n % m ≡ n = div-add-mod' n m in omega arith
