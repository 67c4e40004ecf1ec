-- The runs of so many cells of a walk, as they are put.
use Rattle.std.proofs.Common.{◌≡◌, ℕ, zero, suc, ◌+◌, ◌-◌, ◌<◌, ◌≤◌, Bool, true, false, cond, List, [], ◌∷◌, length, take, drop, refl, sym, ap, subst, ◌∙◌, arith}
use Rattle.std.specs.Prelude.{min}
use Rattle.std.proofs.lemmas.List.{drop-take}
use Rattle.trace_know.specs.Listing.{is_behind, run_behind, run_len}
use Rattle.trace_wire.specs.Cells.{Entry, known_bytes, knowns_bytes, knowns_of}
use Rattle.trace_wire.specs.Runs.{placed_run, runs_bytes, runs_of}
use Rattle.trace_wire.proofs.WrittenRuns.{Ahead, ahead, run_ahead}

step : (b : Bool) (m n k : ℕ) → k ≡ min m n → cond b (suc k) 0 ≡ min (suc m) (cond b (suc n) 0)
step true m n k e = omega (arith, e)
step false m n k e = omega arith

behind_take : (m : ℕ) (here : ℕ × ℕ) (es : List Entry) → run_behind here (take m es) ≡ min m (run_behind here es)
behind_take zero here es = omega arith
behind_take (suc m) here [] = omega arith
behind_take (suc m) here (e ∷ es) = step (is_behind here e.0) m (run_behind e.0 es) (run_behind e.0 (take m es)) (behind_take m e.0 es)

-- how many of so many cells stand without a gap
pub len_take : (m : ℕ) (es : List Entry) → 0 < m → run_len (take m es) ≡ min m (run_len es)
len_take zero es some = absurd (omega (arith, some))
len_take (suc m) [] some = omega arith
len_take (suc m) (e ∷ es) some = omega (arith, behind_take m e.0 es)

take_front : (n m : ℕ) (es : List Entry) → n ≤ m → take n (take m es) ≡ take n es
take_front zero m es le = refl
take_front (suc n) zero es le = absurd (omega (arith, le))
take_front (suc n) (suc m) [] le = refl
take_front (suc n) (suc m) (e ∷ es) le = ap (λ (l : List Entry). e ∷ l) (take_front n m es (omega (arith, le)))

-- the first run of so many cells, and what is left
pub record Front (cells : List Entry) (e : Entry) (es : List Entry) (most count : ℕ) : Type 0 where
  pub runs : runs_of (take most cells) ≡ run_ahead e es (count - 1) ∷ runs_of (take (most - count) (drop (count - 1) es))
  pub rest : drop count cells ≡ drop (count - 1) es
  pub some : 0 < count
  pub fewer : count ≤ most
  pub there : count - 1 ≤ length es
  pub size : length (run_ahead e es (count - 1)).cells ≡ count
  pub first : length (known_bytes e.1) ≤ length (runs_bytes (runs_of (take most cells)))
  pub others : length (knowns_bytes (knowns_of (take (count - 1) es))) ≤ length (runs_bytes (runs_of (take most cells)))
  pub few : count ≤ length (runs_bytes (runs_of (take most cells)))

front_by : (e : Entry) (es : List Entry) (more left : ℕ) → more + left < length (e ∷ es) → suc more ≡ run_len (take (suc (more + left)) (e ∷ es)) → Front (e ∷ es) e es (suc (more + left)) (suc more)
front_by e es more left there len =
    let most = suc (more + left) in
    let fs = take (more + left) es in
    let a : Ahead (e ∷ fs) e fs more = ahead (e ∷ fs) e fs (suc more) more refl len (omega arith) in
    let same : take more fs ≡ take more es = take_front more (more + left) es (omega arith) in
    let runs : runs_of (e ∷ fs) ≡ run_ahead e es more ∷ runs_of (take left (drop more es)) =
    a.runs ∙ ap (λ (l : List Entry). placed_run e.0 (e.1 ∷ knowns_of l) ∷ runs_of (drop more fs)) same
    ∙ ap (λ (l : List Entry). run_ahead e es more ∷ runs_of l) (drop-take more left es) in
    let one : suc more - 1 ≡ more = omega arith in
    let rest : most - suc more ≡ left = omega arith in
    record {
      runs = subst (λ (n : ℕ). runs_of (e ∷ fs) ≡ run_ahead e es n ∷ runs_of (take (most - suc more) (drop n es))) (sym one) (subst (λ (n : ℕ). runs_of (e ∷ fs) ≡ run_ahead e es more ∷ runs_of (take n (drop more es))) (sym rest) runs);
      rest = subst (λ (n : ℕ). drop more es ≡ drop n es) (sym one) refl;
      some = omega arith;
      fewer = omega arith;
      there = omega (arith, there);
      size = subst (λ (n : ℕ). length (run_ahead e es n).cells ≡ suc more) (sym one) (ap (λ (l : List Entry). length (placed_run e.0 (e.1 ∷ knowns_of l)).cells) (sym same) ∙ a.count ∙ (omega arith));
      first = a.first;
      others = subst (λ (n : ℕ). length (knowns_bytes (knowns_of (take n es))) ≤ length (runs_bytes (runs_of (e ∷ fs)))) (sym one) (subst (λ (l : List Entry). length (knowns_bytes (knowns_of l)) ≤ length (runs_bytes (runs_of (e ∷ fs)))) same a.others);
      few = omega (arith, a.few);
    }

some_more : (n : ℕ) → 0 < n → (more : ℕ) × (n ≡ suc more)
some_more zero some = absurd (omega (arith, some))
some_more (suc n) some = (n, refl)

pub front_of : (cells : List Entry) (e : Entry) (es : List Entry) (most count : ℕ) → cells ≡ e ∷ es → 0 < most → most ≤ length cells → count ≡ min (run_len cells) most → Front cells e es most count
front_of cells e es most count is some there len =
    let len2 : run_len cells ≡ suc (run_behind e.0 es) = ap run_len is in
    let n = some_more count (omega (arith, len, len2, some)) in
    let left = most - count in
    let all : most ≡ suc (n.0 + left) = omega (arith, n.1, len, some) in
    let within : n.0 + left < length (e ∷ es) = omega (arith, ap (λ (l : List Entry). length l) is, there, all) in
    let taken : suc n.0 ≡ run_len (take (suc (n.0 + left)) (e ∷ es)) =
    sym n.1 ∙ len ∙ (omega (arith, len_take most cells some)) ∙ ap (λ (m : ℕ). run_len (take m cells)) all ∙ ap (λ (l : List Entry). run_len (take (suc (n.0 + left)) l)) is in
    subst (λ (l : List Entry). Front l e es most count) (sym is) (subst (λ (m : ℕ). Front (e ∷ es) e es m count) (sym all) (subst (λ (k : ℕ). Front (e ∷ es) e es (suc (n.0 + left)) k) (sym n.1) (front_by e es n.0 left within taken)))

drop_none : (n : ℕ) → ◌≡◌ {A = List Entry} (drop n []) []
drop_none zero = refl
drop_none (suc n) = refl

pub drop_rest : (n m : ℕ) (es : List Entry) → n ≤ m → drop (m - n) (drop n es) ≡ drop m es
drop_rest zero m es le = let is : m - 0 ≡ m = omega arith in ap (λ (k : ℕ). drop k es) is
drop_rest (suc n) zero es le = absurd (omega (arith, le))
drop_rest (suc n) (suc m) [] le = drop_none (suc m - suc n)
drop_rest (suc n) (suc m) (e ∷ es) le = let is : suc m - suc n ≡ m - n = omega arith in ap (λ (k : ℕ). drop k (drop n es)) is ∙ drop_rest n m es (omega (arith, le))
