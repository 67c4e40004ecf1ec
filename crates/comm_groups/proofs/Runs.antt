-- Runs of one color in a list in which no color falls.
use Rattle.std.proofs.Common.{◌≡◌, ◌≢◌, ℕ, ◌+◌, ◌-◌, ◌<◌, ◌≤◌, ◌++◌, Bool, true, false, List, [], ◌∷◌, map, length, take, drop, get_or, refl, arith, ap, ◌∙◌, sym, append_assoc, append-nil, ⊎_elim, is_lt, nat_cmp, int_cmp, suc, zero}
use Rattle.std.specs.declared.cmp.Ordering.{Ordering}
use Rattle.std.specs.Ordering.{ordering_then}
use Rattle.std.specs.List.{All, AllByRecursion, flat_map}
use Rattle.std.specs.List.Sorted.{IsNonDecreasingBy, IsSortedBy, IsStrictlyIncreasing}
use Rattle.std.proofs.lemmas.Bool.{cases_lt, lt-ltb, true≢false}
use Rattle.std.proofs.lemmas.List.{length-drop, get_or-drop, get_or_append_left, get_or_push, length_push, map-append, take-append-drop, length-take-le, length-map, map_push}
use Rattle.std.proofs.lemmas.List.Concat.{flat_map-append}
use Rattle.std.proofs.lemmas.List.Elements.{All-drop, All-map, All-push, All-weaker, recursion_from_All}
use Rattle.std.proofs.lemmas.List.Sorted.{IsNonDecreasingBy-drop, IsNonDecreasingBy-from_all_adjacent}
use Rattle.comm_groups.specs.declared.color.Colored.{Colored}
use Rattle.comm_groups.specs.Splits.{Group, colored, split_cmp}

less_first : (a b : ℕ) (o : Ordering) → b < a → is_lt (ordering_then (nat_cmp b a) o) ≡ true
less_first a b o l = rw (lt-ltb b a l) refl

le_from_cmp : (a b : ℕ) (o : Ordering) → is_lt (ordering_then (nat_cmp b a) o) ≡ false → a ≤ b
le_from_cmp a b o h = ⊎_elim (λ (l : b < a). absurd (true≢false (sym (less_first a b o l) ∙ h))) (λ (g : a ≤ b). g) (cases_lt b a)

-- sorted ranks are sorted by color
pub by_color : (xs : List Colored) → IsSortedBy (λ x y. is_lt (split_cmp x y)) xs → IsNonDecreasingBy (λ e. e.color) xs
by_color xs h = IsNonDecreasingBy-from_all_adjacent (λ (e : Colored). e.color) xs
    (λ k d below. le_from_cmp (get_or xs k d).color (get_or xs (k + 1) d).color
    (ordering_then (int_cmp (get_or xs (k + 1) d).key (get_or xs k d).key) (nat_cmp (get_or xs (k + 1) d).rank (get_or xs k d).rank))
    (h k d (omega arith) below))

abbrev pub pair : Colored → ℕ × ℕ
pair e = (e.color, e.rank)

abbrev pub group_of : ℕ → List Colored → Group
group_of color run = record { color = color; ranks = map (λ (e : Colored). e.rank) run }

same_colored : (color : ℕ) (run : List Colored) → AllByRecursion (λ (e : Colored). e.color ≡ color) run → colored (group_of color run) ≡ map pair run
same_colored color [] h = refl
same_colored color (e ∷ es) h =
    let rest : colored (group_of color es) ≡ map pair es = same_colored color es h.1 in
    ap (λ (k : ℕ). (k, e.rank) ∷ colored (group_of color es)) (sym h.0) ∙ ap (λ (l : List (ℕ × ℕ)). (e.color, e.rank) ∷ l) rest

all_more : (gs : List Group) (color n : ℕ) (rest : List Colored) (whole : List (ℕ × ℕ)) → All (λ (e : Colored). e.color ≡ color) (take n rest)
    → flat_map colored gs ++ map pair rest ≡ whole
    → flat_map colored (gs ++ group_of color (take n rest) ∷ []) ++ map pair (drop n rest) ≡ whole
all_more gs color n rest whole same before =
    let run : List Colored = take n rest in
    let colors : colored (group_of color run) ≡ map pair run = same_colored color run (recursion_from_All (λ (e : Colored). e.color ≡ color) run same) in
    let one : flat_map colored (gs ++ group_of color run ∷ []) ≡ flat_map colored gs ++ map pair run
    = flat_map-append colored gs (group_of color run ∷ []) ∙ ap (λ (l : List (ℕ × ℕ)). flat_map colored gs ++ l) (append-nil (colored (group_of color run)) ∙ colors) in
    let parts : map pair run ++ map pair (drop n rest) ≡ map pair rest = sym (map-append pair run (drop n rest)) ∙ ap (map pair) (take-append-drop n rest) in
    ap (λ (l : List (ℕ × ℕ)). l ++ map pair (drop n rest)) one
    ∙ append_assoc (flat_map colored gs) (map pair run) (map pair (drop n rest))
    ∙ ap (λ (l : List (ℕ × ℕ)). flat_map colored gs ++ l) parts
    ∙ before

-- behind a run all colors are above its own
above : (color n : ℕ) (rest : List Colored) → IsNonDecreasingBy (λ (e : Colored). e.color) rest → ((e : Colored) → (get_or rest 0 e).color ≡ color)
    → ((e : Colored) → n < length rest → (get_or rest n e).color ≢ color) → All (λ (e : Colored). color < e.color) (drop n rest)
above color n rest sorted head next = λ k d below.
    let len : length (drop n rest) ≡ length rest - n = length-drop n rest in
    let place : get_or (drop n rest) k d ≡ get_or rest (n + k) d = get_or-drop n rest k d in
    let low : (get_or rest 0 d).color ≤ (get_or rest n d).color = sorted 0 n d (omega arith) (omega arith) in
    let high : (get_or rest n d).color ≤ (get_or rest (n + k) d).color = sorted n (n + k) d (omega arith) (omega arith) in
    let first : (get_or rest 0 d).color ≡ color = head d in
    let apart : (get_or rest n d).color ≢ color = next d (omega arith) in
    let here : color < (get_or rest (n + k) d).color = omega arith in
    rw place here

-- the groups so far are below the color of what is left
beneath : (gs : List Group) (rest : List Colored) (d : Colored) → All (λ (g : Group). All (λ (e : Colored). g.color < e.color) rest) gs → 0 < length rest
    → (get_or rest 0 d).color ≡ d.color → All (λ (g : Group). g.color < d.color) gs
beneath gs rest d below some head = All-weaker (λ (g : Group). All (λ (e : Colored). g.color < e.color) rest) (λ (g : Group). g.color < d.color)
    (λ g h. let lt : g.color < (get_or rest 0 d).color = h 0 d some in omega arith) gs below

rising_push : (xs : List ℕ) (y : ℕ) → IsStrictlyIncreasing xs → All (λ x. x < y) xs → IsStrictlyIncreasing (xs ++ y ∷ [])
rising_push xs y up low = λ k h.
    let len : length (xs ++ y ∷ []) ≡ length xs + 1 = length_push xs y in
    let kept : get_or (xs ++ y ∷ []) k 0 ≡ get_or xs k 0 = get_or_append_left xs (y ∷ []) 0 k (omega arith) in
    ⊎_elim
    (λ (inside : k + 1 < length xs).
    let next : get_or (xs ++ y ∷ []) (k + 1) 0 ≡ get_or xs (k + 1) 0 = get_or_append_left xs (y ∷ []) 0 (k + 1) inside in
    let lt : get_or xs k 0 < get_or xs (k + 1) 0 = up k inside in
    omega arith)
    (λ (last : length xs ≤ k + 1).
    let next : get_or (xs ++ y ∷ []) (k + 1) 0 ≡ y = get_or_push xs y 0 (k + 1) (omega arith) in
    let lt : get_or xs k 0 < y = low k 0 (omega arith) in
    omega arith)
    (cases_lt (k + 1) (length xs))

-- the groups of what came before, and what is left
pub record Grouped (order rest : List Colored) (gs : List Group) : Type 0 where
  pub all : flat_map colored gs ++ map pair rest ≡ map pair order
  pub sorted : IsNonDecreasingBy (λ (e : Colored). e.color) rest
  pub below : All (λ (g : Group). All (λ (e : Colored). g.color < e.color) rest) gs
  pub some : All (λ (g : Group). 0 < length g.ranks) gs
  pub rising : IsStrictlyIncreasing (map (λ (g : Group). g.color) gs)

long_run : (n : ℕ) (rest : List Colored) (d : Colored) → n ≤ length rest → 0 < n → 0 < length (group_of d.color (take n rest)).ranks
long_run n rest d within some =
    let len : length (map (λ (e : Colored). e.rank) (take n rest)) ≡ length (take n rest) = length-map (take n rest) (λ (e : Colored). e.rank) in
    let taken : length (take n rest) ≡ n = length-take-le n rest within in
    omega arith

some_run : (n : ℕ) (rest : List Colored) (d : Colored) → 0 < length rest → (get_or rest 0 d).color ≡ d.color → (n < length rest → (get_or rest n d).color ≢ d.color) → 0 < n
some_run zero rest d some head next = absurd (next some head)
some_run (suc n) rest d some head next = omega arith

pub grouped_more : (order rest : List Colored) (gs : List Group) (n : ℕ) (d : Colored) → Grouped order rest gs → 0 < length rest → n ≤ length rest
    → ((e : Colored) → (get_or rest 0 e).color ≡ d.color) → All (λ (e : Colored). e.color ≡ d.color) (take n rest)
    → ((e : Colored) → n < length rest → (get_or rest n e).color ≢ d.color)
    → Grouped order (drop n rest) (gs ++ group_of d.color (take n rest) ∷ [])
grouped_more order rest gs n d was some within head same next =
    let g : Group = group_of d.color (take n rest) in
    let later : All (λ (e : Colored). d.color < e.color) (drop n rest) = above d.color n rest was.sorted head next in
    let kept : All (λ (g : Group). All (λ (e : Colored). g.color < e.color) (drop n rest)) gs
    = All-weaker (λ (g : Group). All (λ (e : Colored). g.color < e.color) rest) (λ (g : Group). All (λ (e : Colored). g.color < e.color) (drop n rest))
    (λ g h. All-drop (λ (e : Colored). g.color < e.color) n rest h) gs was.below in
    let lower : All (λ (x : ℕ). x < d.color) (map (λ (g : Group). g.color) gs)
    = All-map (λ (x : ℕ). x < d.color) (λ (g : Group). g.color) gs (beneath gs rest d was.below some (head d)) in
    record {
      all = all_more gs d.color n rest (map pair order) same was.all;
      sorted = IsNonDecreasingBy-drop (λ (e : Colored). e.color) n rest was.sorted;
      below = All-push (λ (g : Group). All (λ (e : Colored). g.color < e.color) (drop n rest)) gs g kept later;
      some = All-push (λ (g : Group). 0 < length g.ranks) gs g was.some (long_run n rest d within (some_run n rest d some (head d) (next d)));
      rising = rw (map_push (λ (g : Group). g.color) gs g) (rising_push (map (λ (g : Group). g.color) gs) d.color was.rising lower);
    }
