-- Ranges of ranks, one after the other.
use Rattle.std.proofs.Common.{◌≡◌, ◌≢◌, ℕ, ◌+◌, ◌*◌, ◌-◌, ◌/◌, ◌%◌, ◌^◌, ◌<◌, ◌≤◌, ◌&&◌, ◌||◌, ◌==◌, ◌++◌, Bool, true, false, not, List, [], ◌∷◌, Option, Some, None, cond, eqb, map, length, take, drop, get_or, refl, arith, ap, ◌∙◌, sym, ⊎_elim, nat_lt, nat_le, rules}
use Rattle.std.proofs.Math.Nat.{mul-le-mul_right}
use Rattle.std.specs.List.{AllByRecursion, IsDistinct, flat_map, list_all, list_any, range_with_len}
use Rattle.std.proofs.lemmas.Bool.{and_parts, and_left, and_right, cases_Bool, eqb-true, ltb-true, not-true, or_cases, true≢false}
use Rattle.std.proofs.lemmas.List.{flat_map_more, length-append, take-append-drop, take_more}
use Rattle.std.proofs.lemmas.List.Concat.{flat_map-append}
use Rattle.std.proofs.lemmas.List.Folds.{list_all_at, list_all_more}
use Rattle.std.proofs.lemmas.List.FromFn.{length-map-range_with_len}
use Rattle.std.proofs.lemmas.Map.Keys.{IsDistinct-cons}
use Rattle.std.proofs.lemmas.Map.Steps.{length-le_from_distinct_below}
use Rattle.std.proofs.lemmas.Nat.{div-add-mod'}
use Rattle.std.proofs.lemmas.Grind.{common_steps}
use Rattle.comm_groups.specs.declared.range.RankRange.{RankRange}
use Rattle.comm_groups.specs.Groups.{are_ranks, excl_of, has, has_double, incl_of, members_at, ranks_without}
use Rattle.comm_groups.specs.Ranges.{count_of, is_range, range_excl_of, range_incl_of, ranks_of, span_of}

or_false : (a b : Bool) → (a || b) ≡ false → (a ≡ false) × (b ≡ false)
or_false true b h = cc
or_false false b h = (refl, h)

differ : (x : ℕ) (xs : List ℕ) → has xs x ≡ false → AllByRecursion (λ y. eqb x y ≡ false) xs
differ x [] h = search rules
differ x (y ∷ ys) h =
    let parts = or_false (y == x) (has ys x) h in
    let other : (y == x) ≡ false = parts.0 in
    let first : eqb x y ≡ false = grind (arith, common_steps) in
    (first, differ x ys parts.1)

distinct : (xs : List ℕ) → has_double xs ≡ false → IsDistinct eqb xs
unfolding IsDistinct
distinct [] h = search rules
distinct (x ∷ xs) h =
    let parts = or_false (has xs x) (has_double xs) h in
    IsDistinct-cons eqb x xs (differ x xs parts.0) (distinct xs parts.1)

member_below : (n : ℕ) (xs : List ℕ) → list_all (λ r. nat_lt r n) xs ≡ true → (q : ℕ) → list_any (eqb q) xs ≡ true → q < n
member_below n [] h q k = cc
member_below n (x ∷ xs) h q k =
    let parts = and_parts (nat_lt x n) (list_all (λ r. nat_lt r n) xs) h in
    let low : x < n = ltb-true x n parts.0 in
    ⊎_elim (λ (e : eqb q x ≡ true). let same : q ≡ x = eqb-true q x e in omega arith)
    (λ (r : list_any (eqb q) xs ≡ true). member_below n xs parts.1 q r)
    (or_cases (eqb q x) (list_any (eqb q) xs) k)

-- a group has no more ranks than members
few : (size : ℕ) (ranks : List ℕ) → are_ranks size ranks ≡ true → length ranks ≤ size
few size ranks h =
    let parts = and_parts (list_all (λ r. nat_lt r size) ranks) (not (has_double ranks)) h in
    length-le_from_distinct_below ranks size (distinct ranks (not-true (has_double ranks) parts.1)) (member_below size ranks parts.0)

many : (size : ℕ) (ranks : List ℕ) → size < length ranks → are_ranks size ranks ≡ false
many size ranks h =
    ⊎_elim (λ (yes' : are_ranks size ranks ≡ true). let le : length ranks ≤ size = few size ranks yes' in absurd (omega arith)) (λ (no' : are_ranks size ranks ≡ false). no') (cases_Bool (are_ranks size ranks))

abbrev pub no_range : RankRange
no_range = record { first = 0; last = 0; stride = 0; falls = false }

pub lost_range : (size : ℕ) (ranges : List RankRange) (i : ℕ) → i < length ranges → is_range (get_or ranges i no_range) ≡ false
    → (list_all is_range ranges && are_ranks size (flat_map ranks_of ranges)) ≡ false
lost_range size ranges i below h = and_left (list_all is_range ranges) (are_ranks size (flat_map ranks_of ranges)) (list_all_at is_range ranges i no_range below h)

length-ranks_of : (r : RankRange) → length (ranks_of r) ≡ count_of r
length-ranks_of r = length-map-range_with_len (λ k. cond r.falls (r.first - k * r.stride) (r.first + k * r.stride)) 0 (count_of r)

pub ranks_more : (ranges : List RankRange) (i : ℕ) → i < length ranges → flat_map ranks_of (take (i + 1) ranges) ≡ flat_map ranks_of (take i ranges) ++ ranks_of (get_or ranges i no_range)
ranks_more ranges i below =
    ap (flat_map ranks_of) (take_more ranges i no_range below) ∙ sym (flat_map_more ranks_of [] (take i ranges) (get_or ranges i no_range))

pub are_more : (ranges : List RankRange) (i : ℕ) → i < length ranges → list_all is_range (take i ranges) ≡ true → is_range (get_or ranges i no_range) ≡ true
    → list_all is_range (take (i + 1) ranges) ≡ true
are_more ranges i below h k = rw (list_all_more is_range ranges i no_range below, h) k

pub count_more : (ranges : List RankRange) (i : ℕ) → i < length ranges → length (flat_map ranks_of (take (i + 1) ranges)) ≡ length (flat_map ranks_of (take i ranges)) + count_of (get_or ranges i no_range)
count_more ranges i below =
    ap (λ (l : List ℕ). length l) (ranks_more ranges i below) ∙ length-append (flat_map ranks_of (take i ranges)) (ranks_of (get_or ranges i no_range))
    ∙ ap (λ (n : ℕ). length (flat_map ranks_of (take i ranges)) + n) (length-ranks_of (get_or ranges i no_range))

pub long_ranges : (size : ℕ) (ranges : List RankRange) (i : ℕ) → i < length ranges → size < length (flat_map ranks_of (take i ranges)) + count_of (get_or ranges i no_range)
    → (list_all is_range ranges && are_ranks size (flat_map ranks_of ranges)) ≡ false
long_ranges size ranges i below h =
    let more : length (flat_map ranks_of (take (i + 1) ranges)) ≡ length (flat_map ranks_of (take i ranges)) + count_of (get_or ranges i no_range) = count_more ranges i below in
    let split : flat_map ranks_of (take (i + 1) ranges ++ drop (i + 1) ranges) ≡ flat_map ranks_of (take (i + 1) ranges) ++ flat_map ranks_of (drop (i + 1) ranges)
    = flat_map-append ranks_of (take (i + 1) ranges) (drop (i + 1) ranges) in
    let whole : flat_map ranks_of (take (i + 1) ranges ++ drop (i + 1) ranges) ≡ flat_map ranks_of ranges = ap (flat_map ranks_of) (take-append-drop (i + 1) ranges) in
    let len : length (flat_map ranks_of ranges) ≡ length (flat_map ranks_of (take (i + 1) ranges)) + length (flat_map ranks_of (drop (i + 1) ranges))
    = ap (λ (l : List ℕ). length l) (sym whole ∙ split) ∙ length-append (flat_map ranks_of (take (i + 1) ranges)) (flat_map ranks_of (drop (i + 1) ranges)) in
    let long : size < length (flat_map ranks_of ranges) = omega arith in
    and_right (list_all is_range ranges) (are_ranks size (flat_map ranks_of ranges)) (many size (flat_map ranks_of ranges) long)

-- strides that the span has stay within it
pub steps_within : (n s k : ℕ) → k < n / s + 1 → k * s ≤ n
steps_within n s k h =
    let le : k ≤ n / s = omega arith in
    let more : k * s ≤ n / s * s = mul-le-mul_right s le in
    let e : n / s * s + n % s ≡ n = div-add-mod' n s in
    omega arith

pub has_stride : (r : RankRange) → is_range r ≡ true → 0 < r.stride
has_stride r h = ltb-true 0 r.stride (and_parts (nat_lt 0 r.stride) (cond r.falls (nat_le r.last r.first) (nat_le r.first r.last)) h).0

pub span_down : (r : RankRange) → r.falls ≡ true → span_of r ≡ r.first - r.last
span_down r h = rw h refl

pub span_up : (r : RankRange) → r.falls ≡ false → span_of r ≡ r.last - r.first
span_up r h = rw h refl

none_by : (a b : Bool) (o : Option (List ℕ)) → (a && b) ≡ false → None ≡ cond a (cond b o None) None
none_by true true o h = cc
none_by true false o h = refl
none_by false b o h = refl

pub no_incl : (group : List ℕ) (ranges : List RankRange) → (list_all is_range ranges && are_ranks (length group) (flat_map ranks_of ranges)) ≡ false → None ≡ range_incl_of group ranges
no_incl group ranges h = none_by (list_all is_range ranges) (are_ranks (length group) (flat_map ranks_of ranges)) (Some (members_at group (flat_map ranks_of ranges))) h

pub no_excl : (group : List ℕ) (ranges : List RankRange) → (list_all is_range ranges && are_ranks (length group) (flat_map ranks_of ranges)) ≡ false → None ≡ range_excl_of group ranges
no_excl group ranges h = none_by (list_all is_range ranges) (are_ranks (length group) (flat_map ranks_of ranges)) (Some (members_at group (ranks_without (length group) (flat_map ranks_of ranges)))) h

pub is_incl : (group : List ℕ) (ranges : List RankRange) (ranks : List ℕ) → list_all is_range ranges ≡ true → ranks ≡ flat_map ranks_of ranges → incl_of group ranks ≡ range_incl_of group ranges
is_incl group ranges ranks h e =
    let whole : range_incl_of group ranges ≡ incl_of group (flat_map ranks_of ranges) = ap (λ (b : Bool). cond b (incl_of group (flat_map ranks_of ranges)) None) h in
    ap (incl_of group) e ∙ sym whole

pub is_excl : (group : List ℕ) (ranges : List RankRange) (ranks : List ℕ) → list_all is_range ranges ≡ true → ranks ≡ flat_map ranks_of ranges → excl_of group ranks ≡ range_excl_of group ranges
is_excl group ranges ranks h e =
    let whole : range_excl_of group ranges ≡ excl_of group (flat_map ranks_of ranges) = ap (λ (b : Bool). cond b (excl_of group (flat_map ranks_of ranges)) None) h in
    ap (excl_of group) e ∙ sym whole
