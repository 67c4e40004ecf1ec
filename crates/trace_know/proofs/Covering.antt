-- Runs, and a patch that takes the place of those that it touches.
use Rattle.std.proofs.Common.{inl, inr, ◌≡◌, ℕ, ◌+◌, ◌-◌, ◌^◌, ◌<◌, ◌≤◌, max, suc, zero, Bool, cond, Option, Some, None, List, [], ◌∷◌, ◌++◌, length, take, drop, slice_index_or, refl, sym, ap, subst, ◌∙◌, arith}
use Rattle.std.proofs.lemmas.Bool.{cases_lt}
use Rattle.std.proofs.lemmas.List.{get_or_default, take_more}
use Rattle.std.specs.Ordering.{eq_by_cmp}
use Rattle.std.specs.FinMap.{empty, get}
use Rattle.trace_know.specs.declared.cell.Known.{Known}
use Rattle.trace_know.specs.declared.cell.Known.TheVariants.{Contradiction}
use Rattle.trace_know.specs.declared.run.Run.{Run}
use Rattle.trace_know.specs.Cell.{IsAtMost}
use Rattle.trace_know.specs.Patches.{AllSettled, Covers, IsClear, IsSettled}
use Rattle.trace_know.specs.Rows.{single, row}
use Rattle.trace_know.specs.Runs.{of_run, of_runs, spot, start_of, end_of, IsFilled, Above, last_end, last_of}
use Rattle.trace_know.specs.View.{View, IsBelow, place_cmp, join}
use Rattle.trace_know.proofs.Fronts.{between, runs-past}
use Rattle.trace_know.proofs.Joins.{exact_places, equal, get-join, join-assoc, join-comm, join-idem, join-empty, join-below, above_other, least_above}
use Rattle.trace_know.proofs.Lookups.{nothing, row-in, runs-found}
use Rattle.trace_know.proofs.Order.{filled, rises, same-rank, runs-remove, taken_below, last_end-next}
use Rattle.trace_know.proofs.Rows.{get-single, join-swap}
use Rattle.trace_know.proofs.SameEvents.{false_or_true}

-- ---- a run below a view, cell by cell

single-below : (rank place : ℕ) (k : Known) (v : View) → IsAtMost (Some k) (get v (rank, place)) → IsBelow (single rank place k) v
single-below rank place k v h r p = elim (false_or_true (eq_by_cmp place_cmp (r, p) (rank, place))) [
  | inl t ↦
      let at : (rank, place) ≡ (r, p) = sym (exact_places (r, p) (rank, place) (equal _ t)) in
      let is : get (single rank place k) (r, p) ≡ Some k = get-single rank place k (r, p) ∙ ap (λ (b : Bool). cond b (Some k) None) t in
      subst (λ (c : Option Known). IsAtMost c (get v (r, p))) (sym is) (subst (λ (q : ℕ × ℕ). IsAtMost (Some k) (get v q)) at h)
  | inr f ↦
      let is : get (single rank place k) (r, p) ≡ None = get-single rank place k (r, p) ∙ ap (λ (b : Bool). cond b (Some k) None) f in
      subst (λ (c : Option Known). IsAtMost c (get v (r, p))) (sym is) tt
]

row-below : (rank place : ℕ) (ks : List Known) (v : View) → ((i : ℕ) (d : Known) → i < length ks → IsAtMost (Some (slice_index_or ks i d)) (get v (rank, place + i))) → IsBelow (row rank place ks) v
row-below rank place [] v h = λ r p. subst (λ (c : Option Known). IsAtMost c (get v (r, p))) (sym (nothing (r, p))) tt
row-below rank place (k ∷ ks) v h =
    let here : place + 0 ≡ place = omega arith in
    least_above (single rank place k) (row rank (place + 1) ks) v
    (single-below rank place k v (subst (λ (p : ℕ). IsAtMost (Some k) (get v (rank, p))) here (h 0 k (omega arith))))
    (row-below rank (place + 1) ks v (λ i d l. let next : place + suc i ≡ place + 1 + i = omega arith in
    subst (λ (p : ℕ). IsAtMost (Some (slice_index_or ks i d)) (get v (rank, p))) next (h (suc i) d (omega arith))))

pub run-held : (r : Run) (v : View) → ((i : ℕ) (d : Known) → i < length r.cells.items → IsAtMost (Some (slice_index_or r.cells.items i d)) (get v (r.rank, r.first + i))) → join v (of_run r) ≡ v
run-held r v h = join-below v (of_run r) (row-below r.rank r.first r.cells.items v h)

-- ---- a view that has a run, or nothing that touches it

pub held-more : (v w : View) (r : Run) → join v (of_run r) ≡ v → join (join v w) (of_run r) ≡ join v w
held-more v w r h = join-swap v w (of_run r) ∙ ap (λ (x : View). join x w) h

pub held-now : (v : View) (r : Run) → join (join v (of_run r)) (of_run r) ≡ join v (of_run r)
held-now v r = join-assoc v (of_run r) (of_run r) ∙ ap (join v) (join-idem (of_run r))

-- runs have each of their runs
pub member : (rs : List Run) (i : ℕ) (r : Run) → i < length rs → r ≡ slice_index_or rs i r → join (of_runs rs) (of_run r) ≡ of_runs rs
member rs i r h is =
    let split = runs-remove rs i r h is in
    ap (λ (v : View). join v (of_run r)) (sym split) ∙ held-now (of_runs (take i rs ++ drop (suc i) rs)) r ∙ split

clear-join : (r : Run) (v w : View) → IsClear r v → IsClear r w → IsClear r (join v w)
clear-join r v w a b = λ p l m. rw (get-join v w (r.rank, p), a p l m, b p l m) refl

-- nothing touches a run between two that follow each other
pub clear-between : (rs : List Run) (at : ℕ) (r : Run) → Above 0 rs → IsFilled r → at ≤ length rs → last_end 0 (take at rs) < start_of r
    → ((d : Run) → at < length rs → end_of r < start_of (slice_index_or rs at d)) → IsClear r (of_runs rs)
clear-between rs at r a f bound before after = λ p l m. elim (cases_lt p (2 ^ 40)) [
  | inl low ↦ between 0 at rs r.rank p a bound low (omega arith) (λ d h. let next = after d h in omega arith)
  | inr high ↦ runs-past 0 rs r.rank p a high
]

clear-alone : (r x : Run) → IsFilled r → IsFilled x → IsClear r (of_runs (x ∷ [])) → IsClear r (of_run x)
clear-alone r x f g h = subst (IsClear r) (join-empty (of_run x)) h

-- a run that ends before another begins touches nothing of it
clear-before : (r x : Run) → IsFilled r → IsFilled x → end_of r < start_of x → IsClear r (of_run x)
clear-before r x f g h = clear-alone r x f g (clear-between (x ∷ []) 0 r (omega arith, g, tt) f (omega arith) (omega arith) (λ d l. h))

-- one run more is joined to the view
pub settled-more : (rs : List Run) (k i : ℕ) (d x : Run) (v : View) → Above 0 rs → k < i → i < length rs → x ≡ slice_index_or rs i x → IsSettled (slice_index_or rs k d) v → IsSettled (slice_index_or rs k d) (join v (of_run x))
settled-more rs k i d x v a h l is s = elim s [
  | inl held ↦ inl (held-more v (of_run x) (slice_index_or rs k d) held)
  | inr clear ↦
      let r = slice_index_or rs k d in
      let f = filled 0 k rs d a (omega arith) in
      let g = subst IsFilled (sym is) (filled 0 i rs x a l) in
      let there : slice_index_or rs i d ≡ x = get_or_default rs i d x l ∙ sym is in
      let gap = subst (λ (y : Run). end_of r < start_of y) there (rises 0 k i rs d a h l) in
      inr (clear-join r v (of_run x) clear (clear-before r x f g gap))
]

-- ---- a patch covers what it touches

known_not : (k : Known) (c : Option Known) → c ≡ None → IsAtMost (Some k) c → ⊥
known_not k None e h = h
known_not k (Some x) e h = absurd cc

not_both : (k : Known) (c : Option Known) → c ≡ None → c ≡ Some k → ⊥
not_both k None e h = absurd cc
not_both k (Some x) e h = absurd cc

-- a place of a run of the patch
at-run : (patch : List Run) (j : ℕ) (p : Run) (place : ℕ) → Above 0 patch → j < length patch → p ≡ slice_index_or patch j p → p.first ≤ place → place < p.first + length p.cells.items
    → get (of_runs patch) (p.rank, place) ≡ get (of_run p) (p.rank, place)
at-run patch j p place a h is low high =
    let f = subst IsFilled (sym is) (filled 0 j patch p a h) in
    let places = f.places in
    let before = subst (λ (x : Run). last_end 0 (take j patch) < start_of x) (sym is) (taken_below 0 j patch p a h) in
    runs-found patch j p p.rank place a h (omega arith) (omega arith) (subst (λ (x : Run). spot p.rank (place + 1) ≤ end_of x) is (omega arith)) is

-- nothing stands right before a run of the patch
gap-before : (patch : List Run) (j : ℕ) (p : Run) (place : ℕ) → Above 0 patch → j < length patch → p ≡ slice_index_or patch j p → place + 1 ≡ p.first → get (of_runs patch) (p.rank, place) ≡ None
gap-before patch j p place a h is next =
    let f = subst IsFilled (sym is) (filled 0 j patch p a h) in
    let places = f.places in
    let before = subst (λ (x : Run). last_end 0 (take j patch) < start_of x) (sym is) (taken_below 0 j patch p a h) in
    between 0 j patch p.rank place a (omega arith) (omega arith) (omega arith)
    (λ d l. subst (λ (x : Run). spot p.rank place < start_of x) (is ∙ get_or_default patch j p d l) (omega arith))

-- nothing stands right behind it
gap-behind : (patch : List Run) (j : ℕ) (p : Run) (place : ℕ) → Above 0 patch → j < length patch → p ≡ slice_index_or patch j p → place ≡ p.first + length p.cells.items → place < 2 ^ 40 → get (of_runs patch) (p.rank, place) ≡ None
gap-behind patch j p place a h is next low =
    let end : last_end 0 (take (j + 1) patch) ≡ end_of p = last_end-next 0 j patch p h ∙ ap end_of (sym is) in
    between 0 (j + 1) patch p.rank place a (omega arith) low (omega arith)
    (λ d l. let here : slice_index_or patch j d ≡ p = get_or_default patch j d p h ∙ sym is in
    let later = subst (λ (x : Run). end_of x < start_of (slice_index_or patch (j + 1) d)) here (rises 0 j (j + 1) patch d a (omega arith) l) in omega arith)

-- a cell of a run stands in each view that has the run
cell-held : (r : Run) (v : View) (place : ℕ) (d : Known) → join v (of_run r) ≡ v → r.first ≤ place → place < r.first + length r.cells.items
    → IsAtMost (Some (slice_index_or r.cells.items (place - r.first) d)) (get v (r.rank, place))
cell-held r v place d held low high =
    let i = place - r.first in
    let at : r.first + i ≡ place = omega arith in
    let below : IsBelow (of_run r) v = subst (λ (x : View). IsBelow (of_run r) x) held (above_other v (of_run r)) in
    let is : get (of_run r) (r.rank, place) ≡ Some (slice_index_or r.cells.items i d) = ap (λ (p : ℕ). get (of_run r) (r.rank, p)) (sym at) ∙ row-in r.rank r.first i r.cells.items d (omega arith) in
    subst (λ (c : Option Known). IsAtMost c (get v (r.rank, place))) is (below r.rank place)

-- what is held of the patch and touches one of its runs lies within that
covered : (patch : List Run) (j : ℕ) (p r : Run) → Above 0 patch → j < length patch → p ≡ slice_index_or patch j p → IsFilled r → start_of r ≤ end_of p → start_of p ≤ end_of r
    → join (of_runs patch) (of_run r) ≡ of_runs patch → join (of_run p) (of_run r) ≡ of_run p
covered patch j p r a h is f s t held =
    let g : IsFilled p = subst IsFilled (sym is) (filled 0 j patch p a h) in
    let rank : r.rank ≡ p.rank = same-rank r p f g s t in
    let some = g.some in
    let places = f.places in
    let first : p.first ≤ r.first = elim (cases_lt r.first p.first) [
      | inl lt ↦
          let place = p.first - 1 in
          let none = gap-before patch j p place a h is (omega arith) in
          absurd (known_not _ (get (of_runs patch) (r.rank, place)) (ap (λ (n : ℕ). get (of_runs patch) (n, place)) rank ∙ none) (cell-held r (of_runs patch) place (slice_index_or r.cells.items 0 Contradiction) held (omega arith) (omega arith)))
      | inr le ↦ le
    ] in
    let end : r.first + length r.cells.items ≤ p.first + length p.cells.items = elim (cases_lt (p.first + length p.cells.items) (r.first + length r.cells.items)) [
      | inl lt ↦
          let place = p.first + length p.cells.items in
          let none = gap-behind patch j p place a h is refl (omega arith) in
          absurd (known_not _ (get (of_runs patch) (r.rank, place)) (ap (λ (n : ℕ). get (of_runs patch) (n, place)) rank ∙ none) (cell-held r (of_runs patch) place (slice_index_or r.cells.items 0 Contradiction) held (omega arith) (omega arith)))
      | inr le ↦ le
    ] in
    run-held r (of_run p) (λ i d l.
    let place = r.first + i in
    let at : place - r.first ≡ i = omega arith in
    let there : get (of_runs patch) (r.rank, place) ≡ get (of_run p) (r.rank, place) =
    ap (λ (n : ℕ). get (of_runs patch) (n, place)) rank ∙ at-run patch j p place a h is (omega arith) (omega arith) ∙ ap (λ (n : ℕ). get (of_run p) (n, place)) (sym rank) in
    subst (λ (c : Option Known). IsAtMost (Some (slice_index_or r.cells.items i d)) c) there
    (subst (λ (n : ℕ). IsAtMost (Some (slice_index_or r.cells.items n d)) (get (of_runs patch) (r.rank, place))) at
    (cell-held r (of_runs patch) place d held (omega arith) (omega arith))))

-- what touches nothing of the patch touches none of its runs
not-touched : (patch : List Run) (j : ℕ) (p r : Run) → Above 0 patch → j < length patch → p ≡ slice_index_or patch j p → IsFilled r → start_of r ≤ end_of p → start_of p ≤ end_of r → IsClear r (of_runs patch) → ⊥
not-touched patch j p r a h is f s t clear =
    let g : IsFilled p = subst IsFilled (sym is) (filled 0 j patch p a h) in
    let rank : r.rank ≡ p.rank = same-rank r p f g s t in
    let some = g.some in
    let place = max p.first (r.first - 1) in
    let i = place - p.first in
    let at : p.first + i ≡ place = omega arith in
    let d = slice_index_or p.cells.items i Contradiction in
    let found : get (of_runs patch) (p.rank, place) ≡ Some (slice_index_or p.cells.items i d) =
    at-run patch j p place a h is (omega arith) (omega arith) ∙ ap (λ (n : ℕ). get (of_run p) (p.rank, n)) (sym at) ∙ row-in p.rank p.first i p.cells.items d (omega arith) in
    not_both (slice_index_or p.cells.items i d) (get (of_runs patch) (p.rank, place)) (ap (λ (n : ℕ). get (of_runs patch) (n, place)) (sym rank) ∙ clear place (omega arith) (omega arith)) found

pub settled-covers : (patch runs : List Run) → Above 0 patch → Above 0 runs → AllSettled runs (of_runs patch) → Covers patch runs
settled-covers patch runs a b settled = λ i j d e k h s t.
    let r = slice_index_or runs i d in
    let p = slice_index_or patch j e in
    let is : p ≡ slice_index_or patch j p = sym (get_or_default patch j p e h) in
    let f = filled 0 i runs d b k in
    elim (settled i d k) [
      | inl held ↦ covered patch j p r a h is f s t held
      | inr clear ↦ absurd (not-touched patch j p r a h is f s t clear)
    ]

-- ---- one run more at the end

pub of-last : (rs : List Run) (x : Run) → of_runs (rs ++ x ∷ []) ≡ join (of_runs rs) (of_run x)
of-last [] x = join-comm (of_run x) empty
of-last (r ∷ rs) x = ap (join (of_run r)) (of-last rs x) ∙ sym (join-assoc (of_run r) (of_runs rs) (of_run x))

pub last_end-last : (low : ℕ) (rs : List Run) (x : Run) → last_end low (rs ++ x ∷ []) ≡ end_of x
last_end-last low [] x = refl
last_end-last low (r ∷ rs) x = last_end-last (end_of r) rs x

pub above-last : (low : ℕ) (rs : List Run) (x : Run) → Above low rs → last_end low rs < start_of x → IsFilled x → Above low (rs ++ x ∷ [])
above-last low [] x a b f = (b, f, tt)
above-last low (r ∷ rs) x a b f = (a.0, a.1, above-last (end_of r) rs x a.2 b f)

-- ---- the last run of a list

pub last-run : (rs : List Run) (n : ℕ) (d : Run) → suc n ≡ length rs → rs ≡ take n rs ++ slice_index_or rs n d ∷ []
last-run [] n d h = absurd (omega arith)
last-run (r ∷ []) zero d h = refl
last-run (r ∷ []) (suc n) d h = absurd (omega arith)
last-run (r ∷ s ∷ rs) zero d h = absurd (omega arith)
last-run (r ∷ s ∷ rs) (suc n) d h = ap (λ (xs : List Run). r ∷ xs) (last-run (s ∷ rs) n d (omega arith))

pub end-last : (rs : List Run) (d : Run) → 0 < length rs → last_end 0 rs ≡ end_of (last_of rs d)
end-last rs d h = ap (last_end 0) (last-run rs (length rs - 1) d (omega arith)) ∙ last_end-last 0 (take (length rs - 1) rs) (last_of rs d)

-- ---- the first runs of a list, and one more

pub taken-next : (rs : List Run) (i : ℕ) (r : Run) → i < length rs → r ≡ slice_index_or rs i r → of_runs (take (i + 1) rs) ≡ join (of_runs (take i rs)) (of_run r)
taken-next rs i r h is = ap of_runs (take_more rs i r h) ∙ of-last (take i rs) (slice_index_or rs i r) ∙ ap (λ (x : Run). join (of_runs (take i rs)) (of_run x)) (sym is)

pub ends-later : (rs : List Run) (i : ℕ) (r : Run) → Above 0 rs → i < length rs → r ≡ slice_index_or rs i r → last_end 0 (take i rs) ≤ last_end 0 (take (i + 1) rs)
ends-later rs i r a h is =
    let below = taken_below 0 i rs r a h in
    let last = last_end-next 0 i rs r h in
    omega arith

-- one that is held is passed over
pub passed : (held patch taken x : View) → join held patch ≡ join held taken → join held x ≡ held → join held patch ≡ join held (join taken x)
passed held patch taken x so_far has = so_far ∙ ap (λ (v : View). join v taken) (sym has) ∙ join-swap held x taken ∙ join-assoc held taken x

-- one that is not is put into the patch
pub added : (held patch taken x : View) → join held patch ≡ join held taken → join held (join patch x) ≡ join held (join taken x)
added held patch taken x so_far = sym (join-assoc held patch x) ∙ ap (λ (v : View). join v x) so_far ∙ join-assoc held taken x

-- one of the runs that are held is put into the patch
pub touched : (held patch before x : View) → join held patch ≡ join held before → join held x ≡ held → join held (join patch x) ≡ join held before
touched held patch before x so_far has = sym (join-assoc held patch x) ∙ join-swap held patch x ∙ ap (λ (v : View). join v patch) has ∙ so_far
