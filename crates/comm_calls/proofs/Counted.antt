-- How many calls name a number, over more and more calls.
use Rattle.std.proofs.Common.{◌≡◌, ◌≢◌, ◌∙◌, ◌<◌, ◌≤◌, ℕ, zero, suc, ◌+◌, Bool, true, false, List, [], ◌∷◌, ◌++◌, Option, Some, None, cond, ap, sym, refl, arith}
use Rattle.std.specs.List.{count_by, range_with_len}
use Rattle.std.proofs.lemmas.Bool.{eq-eqb, ne_eqb}
use Rattle.std.proofs.lemmas.List.{map-id}
use Rattle.std.proofs.lemmas.List.FromFn.{length-range_with_len, map-range_with_len_more}
use Rattle.std.proofs.lemmas.List.Sums.{count_by-le-length, sum_by-cons, sum_by_push}
use Rattle.comm_calls.specs.Uses.{count_named, is_number}

-- one call more
range_more : (first many : ℕ) → range_with_len first (many + 1) ≡ range_with_len first many ++ (first + many) ∷ []
range_more first many =
    sym (map-id (range_with_len first (many + 1))) ∙ map-range_with_len_more (λ (x : ℕ). x) first many (first + many) refl
    ∙ ap (λ (l : List ℕ). l ++ (first + many) ∷ []) (map-id (range_with_len first many))

count_more : (named : ℕ → Option ℕ) (number first many : ℕ) → count_named named number first (many + 1) ≡ count_named named number first many + cond (is_number number (named (first + many))) 1 0
count_more named number first many =
    ap (count_by (λ (place : ℕ). is_number number (named place))) (range_more first many)
    ∙ sum_by_push (λ (place : ℕ). cond (is_number number (named place)) 1 0) (range_with_len first many) (first + many)

-- one call more in front
count_front : (named : ℕ → Option ℕ) (number first many : ℕ) → count_named named number first (suc many) ≡ cond (is_number number (named first)) 1 0 + count_named named number (first + 1) many
count_front named number first many = sum_by-cons (λ (place : ℕ). cond (is_number number (named place)) 1 0) first (range_with_len (first + 1) many)

pub is_it : (number : ℕ) (named : Option ℕ) → named ≡ Some number → is_number number named ≡ true
is_it number None e = absurd (cc)
is_it number (Some n) e = eq-eqb n number (cc)

pub is_not : (number : ℕ) (named : Option ℕ) → named ≢ Some number → is_number number named ≡ false
is_not number None h = refl
is_not number (Some n) h = ne_eqb n number (λ e. h (ap Some e))

pub count_yes : (named : ℕ → Option ℕ) (number first many : ℕ) → named (first + many) ≡ Some number → count_named named number first (many + 1) ≡ count_named named number first many + 1
count_yes named number first many e = count_more named number first many ∙ ap (λ (b : Bool). count_named named number first many + cond b 1 0) (is_it number (named (first + many)) e)

count_no : (named : ℕ → Option ℕ) (number first many : ℕ) → named (first + many) ≢ Some number → count_named named number first (many + 1) ≡ count_named named number first many
count_no named number first many h =
    count_more named number first many ∙ ap (λ (b : Bool). count_named named number first many + cond b 1 0) (is_not number (named (first + many)) h)
    ∙ (let n : ℕ = count_named named number first many in let e : n + 0 ≡ n = omega arith in e)

-- calls that don't name it count for nothing
pub count_quiet : (named : ℕ → Option ℕ) (number first many more : ℕ) → ((place : ℕ) → first + many ≤ place → place < first + many + more → named place ≢ Some number)
    → count_named named number first (many + more) ≡ count_named named number first many
count_quiet named number first many zero h = ap (count_named named number first) (let e : many + 0 ≡ many = omega arith in e)
count_quiet named number first many (suc more) h =
    ap (count_named named number first) (let e : many + suc more ≡ many + more + 1 = omega arith in e)
    ∙ count_no named number first (many + more) (h (first + (many + more)) (omega arith) (omega arith))
    ∙ count_quiet named number first many more (λ place low high. h place low (omega arith))

-- the count is of what the calls there name
pub count_same : (named other : ℕ → Option ℕ) (number first many : ℕ) → ((place : ℕ) → first ≤ place → place < first + many → other place ≡ named place)
    → count_named other number first many ≡ count_named named number first many
count_same named other number first zero h = refl
count_same named other number first (suc many) h =
    let here : other first ≡ named first = h first (omega arith) (omega arith) in
    let rest = count_same named other number (first + 1) many (λ place low high. h place (omega arith) (omega arith)) in
    count_front other number first many
    ∙ ap (λ (o : Option ℕ). cond (is_number number o) 1 0 + count_named other number (first + 1) many) here
    ∙ ap (λ (n : ℕ). cond (is_number number (named first)) 1 0 + n) rest
    ∙ sym (count_front named number first many)

pub count_within : (named : ℕ → Option ℕ) (number first many : ℕ) → count_named named number first many ≤ many
count_within named number first many =
    let most = count_by-le-length (λ (place : ℕ). is_number number (named place)) (range_with_len first many) in
    let len = length-range_with_len first many in
    omega (arith, most, len)

pub count_one : (named : ℕ → Option ℕ) (number first : ℕ) → named first ≡ Some number → count_named named number first 1 ≡ 1
count_one named number first e =
    count_front named number first 0 ∙ ap (λ (b : Bool). cond b 1 0 + count_named named number (first + 1) 0) (is_it number (named first) e)
