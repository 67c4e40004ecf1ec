-- The maximal runs of cells: they are in order, and no others have these cells.
use Rattle.std.proofs.Common.{◌≡◌, ℕ, suc, ◌+◌, ◌<◌, ◌≤◌, Bool, true, false, cond, eqb, List, [], ◌∷◌, ◌++◌, length, take, drop, Option, Some, None, refl, sym, ap, subst, ◌∙◌, arith}
use Rattle.std.specs.Prelude.{⊤}
use Rattle.std.proofs.lemmas.Bool.Decides.{nat_tests}
use Rattle.trace_know.specs.declared.cell.Known.{Known}
use Rattle.trace_know.specs.Listing.{is_behind, run_behind, run_len}
use Rattle.trace_know.specs.Placed.{IsPlaced}
use Rattle.trace_know.specs.Runs.{placed_cells}
use Rattle.trace_wire.specs.Cells.{AreCells, Entry, IsInRange, is_past, knowns_of}
use Rattle.trace_wire.specs.Runs.{AreKnown, AreRuns, PlacedRun, RunFits, behind, cells_in, in_front, placed_run, runs_of}

-- ---- places right behind others

behind_is : (a b : ℕ × ℕ) → is_behind a b ≡ true → (a.0 ≡ b.0) × (a.1 + 1 ≡ b.1)
behind_is a b h = (grind (arith, nat_tests, h), grind (arith, nat_tests, h))

next_behind : (rank place : ℕ) → is_behind (rank, place) (rank, place + 1) ≡ true
next_behind rank place = grind (arith, nat_tests)

next_past : (rank place : ℕ) → is_past (Some (rank, place)) (rank, place + 1) ≡ true
next_past rank place = grind (arith, nat_tests)

past_gap : (a b : ℕ × ℕ) → is_past (Some a) b ≡ true → is_behind a b ≡ false → is_past (Some (a.0, a.1 + 1)) b ≡ true
past_gap a b h k = grind (arith, nat_tests, h, k)

past_off : (rank place : ℕ) (b : ℕ × ℕ) → is_past (Some (rank, place + 1)) b ≡ true → is_behind (rank, place) b ≡ false
past_off rank place b h = grind (arith, nat_tests, h)

closer : (rank p q : ℕ) (b : ℕ × ℕ) → p ≤ q → is_past (Some (rank, q)) b ≡ true → is_past (Some (rank, p)) b ≡ true
closer rank p q b le h = grind (arith, nat_tests, h)

-- ---- the cells of the runs

front_cells : (b : Bool) (e : Entry) (r : PlacedRun) (rs : List PlacedRun) → is_behind e.0 (r.rank, r.first) ≡ b → cells_in (cond b (placed_run e.0 (e.1 ∷ r.cells) ∷ rs) (placed_run e.0 (e.1 ∷ []) ∷ r ∷ rs)) ≡ e ∷ cells_in (r ∷ rs)
front_cells true e r rs h = let p = behind_is e.0 (r.rank, r.first) h in λ i. e ∷ (placed_cells (p.0 i) (p.1 i) r.cells ++ cells_in rs)
front_cells false e r rs h = refl

cells_in_front : (e : Entry) (rs : List PlacedRun) → cells_in (in_front e rs) ≡ e ∷ cells_in rs
cells_in_front e [] = refl
cells_in_front e (r ∷ rs) = front_cells (is_behind e.0 (r.rank, r.first)) e r rs refl

pub cells_of_runs : (es : List Entry) → cells_in (runs_of es) ≡ es
cells_of_runs [] = refl
cells_of_runs (e ∷ es) = cells_in_front e (runs_of es) ∙ ap (λ (fs : List Entry). e ∷ fs) (cells_of_runs es)

-- ---- the runs are in order

-- the first of the runs begins past a place
abbrev BeginsPast : Option (ℕ × ℕ) → List PlacedRun → Type 0
BeginsPast before [] = ⊤
BeginsPast before (r ∷ rs) = is_past before (r.rank, r.first) ≡ true

begins : (before : Option (ℕ × ℕ)) (rs : List PlacedRun) → AreRuns before rs → BeginsPast before rs
begins before [] h = tt
begins before (r ∷ rs) h = h.0.past

single_fits : (e : Entry) → IsPlaced e.0.0 e.0.1 e.1 × IsInRange e.1 → RunFits None (placed_run e.0 (e.1 ∷ []))
single_fits e fits = record { past = refl; rank = fits.0.ranks; some = omega arith; places = omega (arith, fits.0.places); cells = (fits, tt) }

longer_fits : (e : Entry) (r : PlacedRun) → e.0.0 ≡ r.rank → e.0.1 + 1 ≡ r.first → IsPlaced e.0.0 e.0.1 e.1 × IsInRange e.1 → RunFits None r → RunFits None (placed_run e.0 (e.1 ∷ r.cells))
longer_fits e r rank next fits run = record {
  past = refl;
  rank = fits.0.ranks;
  some = omega arith;
  places = omega (arith, next, run.places);
  cells = (fits, subst (λ (x : ℕ). AreKnown x (e.0.1 + 1) r.cells) (sym rank) (subst (λ (p : ℕ). AreKnown r.rank p r.cells) (sym next) run.cells));
}

further_fits : (e : Entry) (r : PlacedRun) → is_past (Some e.0) (r.rank, r.first) ≡ true → is_behind e.0 (r.rank, r.first) ≡ false → RunFits None r → RunFits (Some (behind (placed_run e.0 (e.1 ∷ [])))) r
further_fits e r past off run = record { past = past_gap e.0 (r.rank, r.first) past off; rank = run.rank; some = run.some; places = run.places; cells = run.cells }

front_fits : (b : Bool) (e : Entry) (r : PlacedRun) (rs : List PlacedRun) → is_behind e.0 (r.rank, r.first) ≡ b → IsPlaced e.0.0 e.0.1 e.1 × IsInRange e.1 → AreRuns None (r ∷ rs) → is_past (Some e.0) (r.rank, r.first) ≡ true
    → AreRuns None (cond b (placed_run e.0 (e.1 ∷ r.cells) ∷ rs) (placed_run e.0 (e.1 ∷ []) ∷ r ∷ rs))
front_fits true e r rs h fits runs past =
    let p = behind_is e.0 (r.rank, r.first) h in
    let end : r.first + length r.cells ≡ e.0.1 + length (e.1 ∷ r.cells) = omega (arith, p.1) in
    (longer_fits e r p.0 p.1 fits runs.0, subst (λ (q : ℕ). AreRuns (Some (e.0.0, q)) rs) end (subst (λ (x : ℕ). AreRuns (Some (x, r.first + length r.cells)) rs) (sym p.0) runs.1))
front_fits false e r rs h fits runs past = (single_fits e fits, (further_fits e r past h runs.0, runs.1))

first_begins : (b : Bool) (before : Option (ℕ × ℕ)) (e : Entry) (r : PlacedRun) (rs : List PlacedRun) → is_past before e.0 ≡ true → BeginsPast before (cond b (placed_run e.0 (e.1 ∷ r.cells) ∷ rs) (placed_run e.0 (e.1 ∷ []) ∷ r ∷ rs))
first_begins true before e r rs past = past
first_begins false before e r rs past = past

in_front_fits : (before : Option (ℕ × ℕ)) (e : Entry) (rs : List PlacedRun) → is_past before e.0 ≡ true → IsPlaced e.0.0 e.0.1 e.1 × IsInRange e.1 → AreRuns None rs → BeginsPast (Some e.0) rs → AreRuns None (in_front e rs) × BeginsPast before (in_front e rs)
in_front_fits before e [] past fits runs far = ((single_fits e fits, tt), past)
in_front_fits before e (r ∷ rs) past fits runs far = (front_fits (is_behind e.0 (r.rank, r.first)) e r rs refl fits runs far, first_begins (is_behind e.0 (r.rank, r.first)) before e r rs past)

runs_in_order : (before : Option (ℕ × ℕ)) (es : List Entry) → AreCells before es → AreRuns None (runs_of es) × BeginsPast before (runs_of es)
runs_in_order before [] h = (tt, tt)
runs_in_order before (e ∷ es) h = let rest = runs_in_order (Some e.0) es h.2 in in_front_fits before e (runs_of es) h.0 h.1 rest.0 rest.1

pub runs_fit : (es : List Entry) → AreCells None es → AreRuns None (runs_of es)
runs_fit es h = (runs_in_order None es h).0

-- ---- no other runs have these cells

alone_off : (e : Entry) (qs : List PlacedRun) → BeginsPast (Some (e.0.0, e.0.1 + 1)) qs → in_front e qs ≡ placed_run e.0 (e.1 ∷ []) ∷ qs
alone_off e [] far = refl
alone_off e (q ∷ qs) far = ap (λ (b : Bool). cond b (placed_run e.0 (e.1 ∷ q.cells) ∷ qs) (placed_run e.0 (e.1 ∷ []) ∷ q ∷ qs)) (past_off e.0.0 e.0.1 (q.rank, q.first) far)

run_then : (rank place : ℕ) (ks : List Known) (rest : List Entry) → 0 < length ks → BeginsPast (Some (rank, place + length ks)) (runs_of rest) → runs_of (placed_cells rank place ks ++ rest) ≡ placed_run (rank, place) ks ∷ runs_of rest
run_then rank place [] rest some far = absurd (omega arith)
run_then rank place (k ∷ []) rest some far = alone_off ((rank, place), k) (runs_of rest) far
run_then rank place (k ∷ l ∷ ks) rest some far =
    let end : place + length (k ∷ l ∷ ks) ≡ place + 1 + length (l ∷ ks) = omega arith in
    let more = run_then rank (place + 1) (l ∷ ks) rest (omega arith) (subst (λ (q : ℕ). BeginsPast (Some (rank, q)) (runs_of rest)) end far) in
    ap (in_front ((rank, place), k)) more
    ∙ ap (λ (b : Bool). cond b (placed_run (rank, place) (k ∷ l ∷ ks) ∷ runs_of rest) (placed_run (rank, place) (k ∷ []) ∷ placed_run (rank, place + 1) (l ∷ ks) ∷ runs_of rest)) (next_behind rank place)

pub runs_of_cells : (before : Option (ℕ × ℕ)) (rs : List PlacedRun) → AreRuns before rs → runs_of (cells_in rs) ≡ rs
runs_of_cells before [] h = refl
runs_of_cells before (r ∷ rs) h =
    let same = runs_of_cells (Some (behind r)) rs h.1 in
    run_then r.rank r.first r.cells (cells_in rs) h.0.some (subst (λ (qs : List PlacedRun). BeginsPast (Some (behind r)) qs) (sym same) (begins (Some (behind r)) rs h.1))
    ∙ ap (λ (qs : List PlacedRun). r ∷ qs) same

-- ---- runs in order have cells in order

row_fits : (before : Option (ℕ × ℕ)) (rank place : ℕ) (ks : List Known) (rest : List Entry) → is_past before (rank, place) ≡ true → 0 < length ks → AreKnown rank place ks → ((last : ℕ) → last + 1 ≡ place + length ks → AreCells (Some (rank, last)) rest)
    → AreCells before (placed_cells rank place ks ++ rest)
row_fits before rank place [] rest past some known next = absurd (omega arith)
row_fits before rank place (k ∷ []) rest past some known next = (past, known.0, next place (omega arith))
row_fits before rank place (k ∷ l ∷ ks) rest past some known next = (past, known.0, row_fits (Some (rank, place)) rank (place + 1) (l ∷ ks) rest (next_past rank place) (omega arith) known.1 (λ last is. next last (omega (arith, is))))

pub cells_fit : (before after : Option (ℕ × ℕ)) (rs : List PlacedRun) → ((at : ℕ × ℕ) → is_past after at ≡ true → is_past before at ≡ true) → AreRuns after rs → AreCells before (cells_in rs)
cells_fit before after [] weaker h = tt
cells_fit before after (r ∷ rs) weaker h =
    row_fits before r.rank r.first r.cells (cells_in rs) (weaker (r.rank, r.first) h.0.past) h.0.some h.0.cells
    (λ last is. cells_fit (Some (r.rank, last)) (Some (behind r)) rs (λ at past. closer r.rank last (r.first + length r.cells) at (omega (arith, is)) past) h.1)

-- ---- the run in front

first_run : (b : Bool) (e f : Entry) (n : ℕ) (es : List Entry) → is_behind e.0 f.0 ≡ b → runs_of (f ∷ es) ≡ placed_run f.0 (f.1 ∷ knowns_of (take n es)) ∷ runs_of (drop n es)
    → in_front e (runs_of (f ∷ es)) ≡ placed_run e.0 (e.1 ∷ knowns_of (take (cond b (suc n) 0) (f ∷ es))) ∷ runs_of (drop (cond b (suc n) 0) (f ∷ es))
first_run true e f n es h is =
    ap (in_front e) is ∙ ap (λ (b : Bool). cond b (placed_run e.0 (e.1 ∷ f.1 ∷ knowns_of (take n es)) ∷ runs_of (drop n es)) (placed_run e.0 (e.1 ∷ []) ∷ placed_run f.0 (f.1 ∷ knowns_of (take n es)) ∷ runs_of (drop n es))) h
first_run false e f n es h is =
    ap (in_front e) is ∙ ap (λ (b : Bool). cond b (placed_run e.0 (e.1 ∷ f.1 ∷ knowns_of (take n es)) ∷ runs_of (drop n es)) (placed_run e.0 (e.1 ∷ []) ∷ placed_run f.0 (f.1 ∷ knowns_of (take n es)) ∷ runs_of (drop n es))) h
    ∙ ap (λ (qs : List PlacedRun). placed_run e.0 (e.1 ∷ []) ∷ qs) (sym is)

pub front_run : (e : Entry) (es : List Entry) → runs_of (e ∷ es) ≡ placed_run e.0 (e.1 ∷ knowns_of (take (run_behind e.0 es) es)) ∷ runs_of (drop (run_behind e.0 es) es)
front_run e [] = refl
front_run e (f ∷ es) = first_run (is_behind e.0 f.0) e f (run_behind f.0 es) es refl (front_run f es)

pub run_within : (e : Entry) (es : List Entry) → run_behind e.0 es ≤ length es
run_within e [] = omega arith
run_within e (f ∷ es) = within (is_behind e.0 f.0) (run_within f es)
  where
    within : (b : Bool) → run_behind f.0 es ≤ length es → cond b (suc (run_behind f.0 es)) 0 ≤ length (f ∷ es)
    within true le = omega (arith, le)
    within false le = omega arith

-- ---- how many runs there are

not_one : (n : ℕ) → eqb (suc (suc n)) 1 ≡ false
not_one n = grind (arith, nat_tests)

ends_run : (b : Bool) (e f : Entry) (n : ℕ) (ks : List Known) (rs : List PlacedRun) → is_behind e.0 f.0 ≡ b
    → length (cond (is_behind e.0 f.0) (placed_run e.0 (e.1 ∷ ks) ∷ rs) (placed_run e.0 (e.1 ∷ []) ∷ placed_run f.0 ks ∷ rs)) ≡ cond (eqb (suc (cond b (suc n) 0)) 1) 1 0 + length (placed_run f.0 ks ∷ rs)
ends_run true e f n ks rs h =
    let less : length (cond (is_behind e.0 f.0) (placed_run e.0 (e.1 ∷ ks) ∷ rs) (placed_run e.0 (e.1 ∷ []) ∷ placed_run f.0 ks ∷ rs)) ≡ suc (length rs) = ap (λ (b : Bool). length (cond b (placed_run e.0 (e.1 ∷ ks) ∷ rs) (placed_run e.0 (e.1 ∷ []) ∷ placed_run f.0 ks ∷ rs))) h in
    let none : 0 + suc (length rs) ≡ suc (length rs) = omega arith in
    less ∙ sym (ap (λ (b : Bool). cond b 1 0 + suc (length rs)) (not_one n) ∙ none)
ends_run false e f n ks rs h =
    let more : length (cond (is_behind e.0 f.0) (placed_run e.0 (e.1 ∷ ks) ∷ rs) (placed_run e.0 (e.1 ∷ []) ∷ placed_run f.0 ks ∷ rs)) ≡ suc (suc (length rs)) = ap (λ (b : Bool). length (cond b (placed_run e.0 (e.1 ∷ ks) ∷ rs) (placed_run e.0 (e.1 ∷ []) ∷ placed_run f.0 ks ∷ rs))) h in
    omega (arith, more)

-- a cell ends a run where no other stands right behind it
pub one_more_run : (e : Entry) (es : List Entry) → length (runs_of (e ∷ es)) ≡ cond (eqb (run_len (e ∷ es)) 1) 1 0 + length (runs_of es)
one_more_run e [] = refl
one_more_run e (f ∷ es) =
    let is = front_run f es in
    let ks = f.1 ∷ knowns_of (take (run_behind f.0 es) es) in
    let rs = runs_of (drop (run_behind f.0 es) es) in
    ap (λ (qs : List PlacedRun). length (in_front e qs)) is ∙ ends_run (is_behind e.0 f.0) e f (run_behind f.0 es) ks rs refl
    ∙ ap (λ (qs : List PlacedRun). cond (eqb (run_len (e ∷ f ∷ es)) 1) 1 0 + length qs) (sym is)
