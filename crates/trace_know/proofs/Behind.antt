-- Cells that are put behind all others, and how many stand in front without a gap.
use Rattle.std.proofs.Common.{◌≡◌, ℕ, suc, zero, ◌+◌, ◌-◌, ◌*◌, ◌^◌, ◌<◌, Bool, true, false, cond, Option, Some, None, List, [], ◌∷◌, ◌++◌, length, map, drop, refl, sym, ap, subst, ◌∙◌, append_assoc, append-nil, arith}
use Rattle.std.specs.Prelude.{Contains, IsSome, ⊤}
use Rattle.std.specs.Ordering.{is_eq}
use Rattle.std.specs.declared.cmp.Ordering.TheVariants.{Less, Greater}
use Rattle.std.specs.FinMap.{get, insert, entries, find, put, get-entries, entries-insert}
use Rattle.std.proofs.lemmas.Bool.Decides.{nat_tests}
use Rattle.trace_know.specs.declared.cell.Known.{Known}
use Rattle.trace_know.specs.declared.run.Run.{Run}
use Rattle.trace_know.specs.Listing.{as_shown, is_behind, run_behind, run_len}
use Rattle.trace_know.specs.Placed.{IsPast}
use Rattle.trace_know.specs.View.{View, place_cmp, join}
use Rattle.trace_know.specs.Rows.{single, row}
use Rattle.trace_know.specs.Runs.{Above, end_of, listed, placed_cells, IsWalk}
use Rattle.trace_know.proofs.Entries.{listed_cell}
use Rattle.trace_know.proofs.Joins.{places_total, join-assoc, join-comm, join-empty}
use Rattle.trace_know.proofs.Listing.{insert-join}
use Rattle.trace_know.proofs.Membership.{here, there}

abbrev Entries : Type 0
Entries = List ((ℕ × ℕ) × Known)

-- every entry stands before a place
abbrev pub AllBefore : ℕ × ℕ → Entries → Type 0
AllBefore at [] = ⊤
AllBefore at (e ∷ es) = (place_cmp e.0 at ≡ Less) × AllBefore at es

all_before : (at : ℕ × ℕ) (es : Entries) → ((q : ℕ × ℕ) (k : Known) → Contains (map as_shown es) (q, Some k) → place_cmp q at ≡ Less) → AllBefore at es
all_before at [] h = tt
all_before at (e ∷ es) h = (h e.0 e.1 (here (as_shown e) (map as_shown es)), all_before at es (λ q k is. h q k (there (as_shown e) (q, Some k) (map as_shown es) is)))

pub past_before : (v : View) (rank place : ℕ) → IsPast v rank place → AllBefore (rank, place) (entries v)
past_before v rank place h = all_before (rank, place) (entries v) (λ q k is. h q.0 q.1 (subst (λ (o : Option Known). IsSome o) (sym (listed_cell v q (Some k) is).0) refl))

turned : (r p s q : ℕ) → place_cmp (r, p) (s, q) ≡ Less → place_cmp (s, q) (r, p) ≡ Greater
turned r p s q h = grind (arith, nat_tests, h)

further : (r p s q : ℕ) → place_cmp (r, p) (s, q) ≡ Less → place_cmp (r, p) (s, q + 1) ≡ Less
further r p s q h = grind (arith, nat_tests, h)

next_place : (r p : ℕ) → place_cmp (r, p) (r, p + 1) ≡ Less
next_place r p = grind (arith, nat_tests)

put_behind : (at : ℕ × ℕ) (k : Known) (es : Entries) → AllBefore at es → put place_cmp at k es ≡ es ++ (at, k) ∷ []
put_behind at k [] a = refl
put_behind at k (e ∷ es) a = rw (turned e.0.0 e.0.1 at.0 at.1 a.0) (ap (λ (fs : Entries). e ∷ fs) (put_behind at k es a.1))

not_found : (at : ℕ × ℕ) (es : Entries) → AllBefore at es → find place_cmp at es ≡ None
not_found at [] a = refl
not_found at (e ∷ es) a = ap (λ (b : Bool). cond b (Some e.1) (find place_cmp at es)) (ap is_eq (turned e.0.0 e.0.1 at.0 at.1 a.0)) ∙ not_found at es a.1

before_next : (rank place : ℕ) (k : Known) (es : Entries) → AllBefore (rank, place) es → AllBefore (rank, place + 1) (es ++ ((rank, place), k) ∷ [])
before_next rank place k [] a = (next_place rank place, tt)
before_next rank place k (e ∷ es) a = (further e.0.0 e.0.1 rank place a.0, before_next rank place k es a.1)

-- a row of cells behind all that are known comes behind them
pub entries-row : (v : View) (rank place : ℕ) (ks : List Known) → AllBefore (rank, place) (entries v) → entries (join v (row rank place ks)) ≡ entries v ++ placed_cells rank place ks
entries-row v rank place [] a = ap entries (join-empty v) ∙ sym (append-nil (entries v))
entries-row v rank place (k ∷ ks) a =
    let at : ℕ × ℕ = (rank, place) in
    let next : View = insert v at k in
    let none : get v at ≡ None = get-entries v at ∙ not_found at (entries v) a in
    let one : join v (single rank place k) ≡ next = join-comm v (single rank place k) ∙ sym (insert-join v rank place k none) in
    let more : entries next ≡ entries v ++ (at, k) ∷ [] = entries-insert places_total v at k ∙ put_behind at k (entries v) a in
    ap entries (sym (join-assoc v (single rank place k) (row rank (place + 1) ks)) ∙ ap (λ (w : View). join w (row rank (place + 1) ks)) one)
    ∙ entries-row next rank (place + 1) ks (subst (λ (es : Entries). AllBefore (rank, place + 1) es) (sym more) (before_next rank place k (entries v) a))
    ∙ ap (λ (es : Entries). es ++ placed_cells rank (place + 1) ks) more ∙ append_assoc (entries v) ((at, k) ∷ []) (placed_cells rank (place + 1) ks)

-- ---- cells without a gap

-- the entries don't go on right behind a place
abbrev StandsOff : ℕ × ℕ → Entries → Type 0
StandsOff at es = run_behind at es ≡ 0

next_behind : (rank place : ℕ) → is_behind (rank, place) (rank, place + 1) ≡ true
next_behind rank place = grind (arith, nat_tests)

run-behind : (rank place : ℕ) (ks : List Known) (rest : Entries) → StandsOff (rank, place + length ks) rest → run_behind (rank, place) (placed_cells rank (place + 1) ks ++ rest) ≡ length ks
run-behind rank place [] rest off = let same : place + 0 ≡ place = omega arith in subst (λ (p : ℕ). run_behind (rank, p) rest ≡ 0) same off
run-behind rank place (k ∷ ks) rest off =
    let far : place + length (k ∷ ks) ≡ place + 1 + length ks = omega arith in
    ap (λ (b : Bool). cond b (suc (run_behind (rank, place + 1) (placed_cells rank (place + 1 + 1) ks ++ rest))) 0) (next_behind rank place)
    ∙ ap (λ (n : ℕ). suc n) (run-behind rank (place + 1) ks rest (subst (λ (p : ℕ). run_behind (rank, p) rest ≡ 0) far off))

run-from : (rank place at : ℕ) (ks : List Known) (rest : Entries) → at < length ks → ((p : ℕ) → p + 1 ≡ place + length ks → StandsOff (rank, p) rest) → run_len (drop at (placed_cells rank place ks ++ rest)) ≡ length ks - at
run-from rank place at [] rest h off = absurd (omega arith)
run-from rank place zero (k ∷ ks) rest h off = let n = run-behind rank place ks rest (off (place + length ks) (omega arith)) in omega arith
run-from rank place (suc at) (k ∷ ks) rest h off =
    let less : length ks - at ≡ length (k ∷ ks) - suc at = omega arith in
    run-from rank (place + 1) at ks rest (omega arith) (λ p is. off p (omega arith)) ∙ less

far_off : (rank p s q : ℕ) → rank * 2 ^ 41 + (p + 1) + 1 < s * 2 ^ 41 + q + 1 → is_behind (rank, p) (s, q) ≡ false
far_off rank p s q h = grind (arith, nat_tests)

off_runs : (rank p low : ℕ) (runs : List Run) → low ≡ rank * 2 ^ 41 + (p + 1) + 1 → Above low runs → StandsOff (rank, p) (listed runs)
off_runs rank p low [] is a = refl
off_runs rank p low (r ∷ rs) is a = off_run rank p r.rank r.first r.cells.items (listed rs) a.1.some (omega (arith, is, a.0))
  where
    off_run : (rank p s q : ℕ) (ks : List Known) (rest : Entries) → 0 < length ks → rank * 2 ^ 41 + (p + 1) + 1 < s * 2 ^ 41 + q + 1 → StandsOff (rank, p) (placed_cells s q ks ++ rest)
    off_run rank p s q [] rest some h = absurd (omega arith)
    off_run rank p s q (k ∷ ks) rest some h = ap (λ (b : Bool). cond b (suc (run_behind (s, q) (placed_cells s (q + 1) ks ++ rest))) 0) (far_off rank p s q h)

-- a walk stands in a run, and the next one stands off
walk-run : (at : ℕ) (run : Run) (runs : List Run) → IsWalk at (run ∷ runs) → run_len (drop at (listed (run ∷ runs))) ≡ length run.cells.items - at
walk-run at run runs walk =
    run-from run.rank run.first at run.cells.items (listed runs) walk.0 (λ p is. off_runs run.rank p (end_of run) runs (omega (arith, is)) walk.1.1.2)

pub walk-first : (at : ℕ) (runs : List Run) (run : Run) (rest : List Run) (n : ℕ) → runs ≡ run ∷ rest → n ≡ length run.cells.items → IsWalk at runs → run_len (drop at (listed runs)) ≡ n - at
walk-first at runs run rest n is len walk =
    ap (λ (rs : List Run). run_len (drop at (listed rs))) is ∙ walk-run at run rest (subst (λ (rs : List Run). IsWalk at rs) is walk) ∙ ap (λ (m : ℕ). m - at) (sym len)
