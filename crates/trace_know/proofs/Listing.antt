-- The entries of the view of runs are their cells, one after another.
use Rattle.std.proofs.Common.{◌≡◌, ℕ, ◌+◌, ◌-◌, ◌^◌, ◌<◌, ◌≤◌, suc, zero, Bool, true, false, cond, Option, Some, None, List, [], ◌∷◌, ◌++◌, length, map, drop, get_or, drop-cons, add-one, refl, sym, ap, subst, ◌∙◌, inl, inr, arith}
use Rattle.std.specs.Prelude.{⊤}
use Rattle.std.proofs.lemmas.Bool.{cases_lt}
use Rattle.std.proofs.lemmas.Bool.Decides.{nat_tests}
use Rattle.std.specs.Option.{option_map}
use Rattle.std.proofs.lemmas.Option.{slice_get-map}
use Rattle.std.specs.List.{AllByRecursion, slice_get}
use Rattle.std.specs.List.Sorted.{IsStrictlySortedBy}
use Rattle.std.specs.Ordering.{is_eq, eq_by_cmp}
use Rattle.std.specs.declared.cmp.Ordering.{Ordering}
use Rattle.std.specs.declared.cmp.Ordering.TheVariants.{Less}
use Rattle.std.specs.FinMap.{get, insert, entries, len, get-empty, get-insert}
use Rattle.trace_know.specs.declared.cell.Known.{Known}
use Rattle.trace_know.specs.declared.cell.Known.TheVariants.{One, Contradiction}
use Rattle.trace_know.specs.Cell.{is_contradiction}
use Rattle.trace_know.specs.Listing.{as_shown, cells_of, conflicts_in}
use Rattle.trace_know.specs.declared.run.Run.{Run}
use Rattle.trace_know.specs.View.{View, place_cmp, kept, join}
use Rattle.trace_know.specs.Rows.{single, row}
use Rattle.trace_know.specs.Runs.{of_run, of_runs, spot, end_of, Above, cells_of_run, placed_cells, listed, conflicts_among}
use Rattle.trace_know.proofs.SameEvents.{false_or_true}
use Rattle.trace_know.proofs.Joins.{places_total, exact_places, equal, get-join, join-assoc, empty-join, same_views}
use Rattle.trace_know.proofs.Rows.{get-single}
use Rattle.trace_know.proofs.Kept.{entries-kept, len-kept}

abbrev Entries : Type 0
Entries = List ((ℕ × ℕ) × Known)

-- the entries rise past a spot
abbrev pub Rising : ℕ → Entries → Type 0
Rising low [] = ⊤
Rising low (e ∷ es) = (low < spot e.0.0 e.0.1) × (e.0.1 < 2 ^ 40) × Rising (spot e.0.0 e.0.1) es

rising-run : (low rank place : ℕ) (ks : List Known) (rest : Entries) → low < spot rank place → place + length ks ≤ 2 ^ 40
    → ((l : ℕ) → l < spot rank (place + length ks) → Rising l rest) → Rising low (placed_cells rank place ks ++ rest)
rising-run low rank place [] rest h p r = r low (omega arith)
rising-run low rank place (k ∷ ks) rest h p r = (h, omega arith, rising-run (spot rank place) rank (place + 1) ks rest (omega arith) (omega arith) (λ l lt. r l (omega arith)))

pub rising : (low less : ℕ) (rs : List Run) → less ≤ low → Above low rs → Rising less (listed rs)
rising low less [] h a = tt
rising low less (r ∷ rs) h a =
    let first = a.0 in
    let places = a.1.places in
    rising-run less r.rank r.first r.cells.items (listed rs) (omega arith) places (λ l lt. rising (end_of r) l rs (omega arith) a.2)

-- ---- sorted

later_rank : (r p s q : ℕ) → r < s → place_cmp (r, p) (s, q) ≡ Less
later_rank r p s q h = grind (arith, nat_tests)

later_place : (r p q : ℕ) → p < q → place_cmp (r, p) (r, q) ≡ Less
later_place r p q h = grind (arith, nat_tests)

pub later : (r p s q : ℕ) → p < 2 ^ 40 → q < 2 ^ 40 → spot r p < spot s q → place_cmp (r, p) (s, q) ≡ Less
later r p s q lp lq h = elim (cases_lt r s) [
  | inl lt ↦ later_rank r p s q lt
  | inr le ↦ let same : s ≡ r = omega arith in subst (λ (x : ℕ). place_cmp (r, p) (x, q) ≡ Less) (sym same) (later_place r p q (omega arith))
]

all_later : (q : ℕ × ℕ) (low : ℕ) (es : Entries) → q.1 < 2 ^ 40 → spot q.0 q.1 ≤ low → Rising low es → AllByRecursion (λ y. place_cmp q y ≡ Less) (map (λ e. e.0) es)
all_later q low [] p h r = tt
all_later q low (e ∷ es) p h r =
    let first = r.0 in
    (later q.0 q.1 e.0.0 e.0.1 p r.1 (omega arith), all_later q (spot e.0.0 e.0.1) es p (omega arith) r.2)

sorted : (low : ℕ) (es : Entries) → Rising low es → IsStrictlySortedBy place_cmp (map (λ e. e.0) es)
unfolding IsStrictlySortedBy
sorted low [] r = tt
sorted low (e ∷ es) r = (all_later e.0 (spot e.0.0 e.0.1) es r.1 (omega arith) r.2, sorted (spot e.0.0 e.0.1) es r.2)

-- ---- the view

not_eq : (o : Ordering) → o ≡ Less → is_eq o ≡ false
not_eq o h = ap is_eq h

pub nothing_before : (q : ℕ × ℕ) (low : ℕ) (es : Entries) → q.1 < 2 ^ 40 → spot q.0 q.1 ≤ low → Rising low es → get (kept es) q ≡ None
nothing_before q low [] p h r = get-empty place_cmp q
nothing_before q low (e ∷ es) p h r =
    let first = r.0 in
    get-insert places_total (kept es) e.0 e.1 q
    ∙ ap (λ (b : Bool). cond b (Some e.1) (get (kept es) q)) (not_eq (place_cmp q e.0) (later q.0 q.1 e.0.0 e.0.1 p r.1 (omega arith)))
    ∙ nothing_before q (spot e.0.0 e.0.1) es p (omega arith) r.2

-- a cell where nothing was known
pub insert-join : (v : View) (rank place : ℕ) (k : Known) → get v (rank, place) ≡ None → insert v (rank, place) k ≡ join (single rank place k) v
insert-join v rank place k none = same_views _ _ (λ q.
    get-insert places_total v (rank, place) k q
    ∙ elim (false_or_true (eq_by_cmp place_cmp q (rank, place))) [
      | inl t ↦
          let at : q ≡ (rank, place) = exact_places q (rank, place) (equal _ t) in
          let here : get v q ≡ None = ap (get v) at ∙ none in
          let cells : get (single rank place k) q ≡ Some k = get-single rank place k q ∙ ap (λ (b : Bool). cond b (Some k) None) t in
          ap (λ (b : Bool). cond b (Some k) (get v q)) t ∙ sym (rw (get-join (single rank place k) v q, cells, here) refl)
      | inr f ↦
          let cells : get (single rank place k) q ≡ None = get-single rank place k q ∙ ap (λ (b : Bool). cond b (Some k) None) f in
          ap (λ (b : Bool). cond b (Some k) (get v q)) f ∙ sym (rw (get-join (single rank place k) v q, cells) refl)
    ])

kept-run : (low rank place : ℕ) (ks : List Known) (rest : Entries) → Rising low (placed_cells rank place ks ++ rest) → kept (placed_cells rank place ks ++ rest) ≡ join (row rank place ks) (kept rest)
kept-run low rank place [] rest r = sym (empty-join (kept rest))
kept-run low rank place (k ∷ ks) rest r =
    let es = placed_cells rank (place + 1) ks ++ rest in
    insert-join (kept es) rank place k (nothing_before (rank, place) (spot rank place) es r.1 (omega arith) r.2)
    ∙ ap (join (single rank place k)) (kept-run (spot rank place) rank (place + 1) ks rest r.2)
    ∙ sym (join-assoc (single rank place k) (row rank (place + 1) ks) (kept rest))

pub kept-listed : (low : ℕ) (rs : List Run) → Above low rs → kept (listed rs) ≡ of_runs rs
kept-listed low [] a = refl
kept-listed low (r ∷ rs) a = kept-run low r.rank r.first r.cells.items (listed rs) (rising low low (r ∷ rs) (omega arith) a) ∙ ap (join (of_run r)) (kept-listed (end_of r) rs a.2)

pub entries-listed : (rs : List Run) → Above 0 rs → entries (of_runs rs) ≡ listed rs
entries-listed rs a = ap entries (sym (kept-listed 0 rs a)) ∙ entries-kept (listed rs) (sorted 0 (listed rs) (rising 0 0 rs (omega arith) a))

pub len-listed : (rs : List Run) → Above 0 rs → len (of_runs rs) ≡ length (listed rs)
len-listed rs a = ap len (sym (kept-listed 0 rs a)) ∙ len-kept (listed rs) (sorted 0 (listed rs) (rising 0 0 rs (omega arith) a))

-- ---- one run after another

pub length-placed : (rank place : ℕ) (ks : List Known) (rest : Entries) → length (placed_cells rank place ks ++ rest) ≡ length ks + length rest
length-placed rank place [] rest = omega arith
length-placed rank place (k ∷ ks) rest = let more = length-placed rank (place + 1) ks rest in omega arith

pub next_run : (rs : List Run) (i : ℕ) (r : Run) → i < length rs → get_or rs i r ≡ r → drop i rs ≡ r ∷ drop (i + 1) rs
next_run rs i r h is = rw (drop-cons rs i r, is, add-one) refl

pub length-next : (rs : List Run) (i : ℕ) (r : Run) → i < length rs → get_or rs i r ≡ r → length (listed (drop i rs)) ≡ length r.cells.items + length (listed (drop (i + 1) rs))
length-next rs i r h is = ap (λ (xs : List Run). length (listed xs)) (next_run rs i r h is) ∙ length-placed r.rank r.first r.cells.items (listed (drop (i + 1) rs))

pub placed-at : (rank place i : ℕ) (ks : List Known) (rest : Entries) (d : Known) → i < length ks → slice_get (placed_cells rank place ks ++ rest) i ≡ Some ((rank, place + i), get_or ks i d)
placed-at rank place i [] rest d h = absurd (omega arith)
placed-at rank place zero (k ∷ ks) rest d h = let same : place ≡ place + zero = omega arith in ap (λ (p : ℕ). Some ((rank, p), k)) same
placed-at rank place (suc i) (k ∷ ks) rest d h =
    let next : place + 1 + i ≡ place + suc i = omega arith in
    placed-at rank (place + 1) i ks rest d (omega arith) ∙ ap (λ (p : ℕ). Some ((rank, p), get_or ks i d)) next

pub placed-past : (rank place i : ℕ) (ks : List Known) (rest : Entries) → length ks ≤ i → slice_get (placed_cells rank place ks ++ rest) i ≡ slice_get rest (i - length ks)
placed-past rank place i [] rest h = ap (slice_get rest) (omega arith)
placed-past rank place zero (k ∷ ks) rest h = absurd (omega arith)
placed-past rank place (suc i) (k ∷ ks) rest h = let less : i - length ks ≡ suc i - length (k ∷ ks) = omega arith in placed-past rank (place + 1) i ks rest (omega arith) ∙ ap (slice_get rest) less

-- ---- contradictions

conflicts-placed : (rank place : ℕ) (ks : List Known) (rest : Entries) → length (conflicts_in (placed_cells rank place ks ++ rest)) ≡ conflicts_among ks + length (conflicts_in rest)
conflicts-placed rank place [] rest = omega arith
conflicts-placed rank place (One e ∷ ks) rest = conflicts-placed rank (place + 1) ks rest
conflicts-placed rank place (Contradiction ∷ ks) rest = let more = conflicts-placed rank (place + 1) ks rest in omega arith

pub conflicts-next : (rs : List Run) (i : ℕ) (r : Run) → i < length rs → get_or rs i r ≡ r
    → length (conflicts_in (listed (drop i rs))) ≡ conflicts_among r.cells.items + length (conflicts_in (listed (drop (i + 1) rs)))
conflicts-next rs i r h is = ap (λ (xs : List Run). length (conflicts_in (listed xs))) (next_run rs i r h is) ∙ conflicts-placed r.rank r.first r.cells.items (listed (drop (i + 1) rs))

pub conflicts-le : (es : Entries) → length (conflicts_in es) ≤ length es
conflicts-le [] = omega arith
conflicts-le ((q, One e) ∷ es) = omega (arith, conflicts-le es)
conflicts-le ((q, Contradiction) ∷ es) = omega (arith, conflicts-le es)

-- ---- contradictions one after another

pub conflicts-append : (es fs : Entries) → conflicts_in (es ++ fs) ≡ conflicts_in es ++ conflicts_in fs
conflicts-append [] fs = refl
conflicts-append ((q, One e) ∷ es) fs = conflicts-append es fs
conflicts-append ((q, Contradiction) ∷ es) fs = ap (λ (qs : List (ℕ × ℕ)). q ∷ qs) (conflicts-append es fs)

pub conflicts-of-run : (rank place : ℕ) (ks : List Known) → length (conflicts_in (placed_cells rank place ks)) ≡ conflicts_among ks
conflicts-of-run rank place [] = refl
conflicts-of-run rank place (One e ∷ ks) = conflicts-of-run rank (place + 1) ks
conflicts-of-run rank place (Contradiction ∷ ks) = ap (λ (n : ℕ). suc n) (conflicts-of-run rank (place + 1) ks)

no-conflict : (qs : List (ℕ × ℕ)) → length qs ≡ 0 → qs ≡ []
no-conflict [] h = refl
no-conflict (q ∷ qs) h = absurd (omega arith)

pub next-conflicts : (rs : List Run) (i : ℕ) (r : Run) → i < length rs → get_or rs i r ≡ r
    → conflicts_in (listed (drop i rs)) ≡ conflicts_in (cells_of_run r) ++ conflicts_in (listed (drop (i + 1) rs))
next-conflicts rs i r h is = ap (λ (xs : List Run). conflicts_in (listed xs)) (next_run rs i r h is) ∙ conflicts-append (cells_of_run r) (listed (drop (i + 1) rs))

pub passed-conflicts : (rs : List Run) (i : ℕ) (r : Run) → i < length rs → get_or rs i r ≡ r → conflicts_among r.cells.items ≡ 0 → conflicts_in (listed (drop i rs)) ≡ conflicts_in (listed (drop (i + 1) rs))
passed-conflicts rs i r h is none = next-conflicts rs i r h is
    ∙ ap (λ (qs : List (ℕ × ℕ)). qs ++ conflicts_in (listed (drop (i + 1) rs))) (no-conflict (conflicts_in (cells_of_run r)) (conflicts-of-run r.rank r.first r.cells.items ∙ none))

pub get-front : {X : Type 0} (xs ys : List X) (i : ℕ) → i < length xs → slice_get (xs ++ ys) i ≡ slice_get xs i
get-front [] ys i h = absurd (omega arith)
get-front (x ∷ xs) ys zero h = refl
get-front (x ∷ xs) ys (suc i) h = get-front xs ys i (omega arith)

pub get-back : {X : Type 0} (xs ys : List X) (i : ℕ) → length xs ≤ i → slice_get (xs ++ ys) i ≡ slice_get ys (i - length xs)
get-back [] ys i h = ap (slice_get ys) (omega arith)
get-back (x ∷ xs) ys zero h = absurd (omega arith)
get-back (x ∷ xs) ys (suc i) h = let less : i - length xs ≡ suc i - length (x ∷ xs) = omega arith in get-back xs ys i (omega arith) ∙ ap (slice_get ys) less

-- the cells of a run from an index on
pub next_cell : (rank first at : ℕ) (ks : List Known) (k : Known) → at < length ks → k ≡ get_or ks at k → placed_cells rank (first + at) (drop at ks) ≡ ((rank, first + at), k) ∷ placed_cells rank (first + (at + 1)) (drop (at + 1) ks)
next_cell rank first at ks k h is =
    let split : drop at ks ≡ k ∷ drop (at + 1) ks = rw (drop-cons ks at k, sym is, add-one) refl in
    let next : first + at + 1 ≡ first + (at + 1) = omega arith in
    ap (placed_cells rank (first + at)) split ∙ ap (λ (p : ℕ). ((rank, first + at), k) ∷ placed_cells rank p (drop (at + 1) ks)) next

pub conflict-here : (q : ℕ × ℕ) (k : Known) (es : Entries) → is_contradiction k ≡ true → conflicts_in ((q, k) ∷ es) ≡ q ∷ conflicts_in es
conflict-here q (One e) es h = absurd cc
conflict-here q Contradiction es h = refl

pub conflict-not : (q : ℕ × ℕ) (k : Known) (es : Entries) → is_contradiction k ≡ false → conflicts_in ((q, k) ∷ es) ≡ conflicts_in es
conflict-not q (One e) es h = refl
conflict-not q Contradiction es h = absurd cc

pub no_cells : (rank place at : ℕ) (ks : List Known) → length ks ≤ at → placed_cells rank place (drop at ks) ≡ []
no_cells rank place zero [] h = refl
no_cells rank place (suc at) [] h = refl
no_cells rank place zero (k ∷ ks) h = absurd (omega arith)
no_cells rank place (suc at) (k ∷ ks) h = no_cells rank place at ks (omega arith)

pub no_runs : (rs : List Run) (i : ℕ) → length rs ≤ i → listed (drop i rs) ≡ []
no_runs [] zero h = refl
no_runs [] (suc i) h = refl
no_runs (r ∷ rs) zero h = absurd (omega arith)
no_runs (r ∷ rs) (suc i) h = no_runs rs i (omega arith)

-- ---- cells as a reader shows them

pub shown-at : (rs : List Run) (v : View) (i : ℕ) (r : Option ((ℕ × ℕ) × Known)) → Above 0 rs → of_runs rs ≡ v → slice_get (listed rs) i ≡ r → slice_get (cells_of v) i ≡ option_map as_shown r
shown-at rs v i r a is h =
    slice_get-map as_shown (entries v) i
    ∙ ap (λ (es : Entries). option_map as_shown (slice_get es i)) (sym (ap entries is) ∙ entries-listed rs a) ∙ ap (option_map as_shown) h
