-- The run that a walk stands before, as it is written.
use Rattle.std.proofs.Common.{◌≡◌, ℕ, suc, zero, ◌+◌, ◌-◌, ◌<◌, ◌≤◌, List, [], ◌∷◌, length, take, drop, refl, sym, ap, subst, ◌∙◌, arith}
use Rattle.trace_know.specs.Listing.{run_behind, run_len}
use Rattle.trace_wire.specs.Cells.{Entry, known_bytes, knowns_bytes, knowns_of}
use Rattle.trace_wire.specs.Runs.{PlacedRun, placed_run, runs_bytes, runs_of}
use Rattle.trace_wire.proofs.Lengths.{knowns_len, runs_len}
use Rattle.trace_wire.proofs.RunCells.{front_run, run_within}
use Rattle.trace_wire.proofs.RunLaws.{knowns_short}

-- The run of cells that begin with one, behind which so many more stand without a gap.
abbrev pub run_ahead : Entry → List Entry → ℕ → PlacedRun
run_ahead e es more = placed_run e.0 (e.1 ∷ knowns_of (take more es))

pub record Ahead (cells : List Entry) (e : Entry) (es : List Entry) (more : ℕ) : Type 0 where
  pub runs : runs_of cells ≡ run_ahead e es more ∷ runs_of (drop more es)
  pub there : more ≤ length es
  pub count : length (run_ahead e es more).cells ≡ more + 1
  pub first : length (known_bytes e.1) ≤ length (runs_bytes (runs_of cells))
  pub others : length (knowns_bytes (knowns_of (take more es))) ≤ length (runs_bytes (runs_of cells))
  pub few : more + 1 ≤ length (runs_bytes (runs_of cells))

length-knowns : (n : ℕ) (es : List Entry) → n ≤ length es → length (knowns_of (take n es)) ≡ n
length-knowns zero [] le = refl
length-knowns (suc n) [] le = absurd (omega (arith, le))
length-knowns zero (e ∷ es) le = refl
length-knowns (suc n) (e ∷ es) le = ap suc (length-knowns n es (omega (arith, le)))

ahead_of : (e : Entry) (es : List Entry) → Ahead (e ∷ es) e es (run_behind e.0 es)
ahead_of e es =
    let more = run_behind e.0 es in
    let ks = knowns_of (take more es) in
    let r = run_ahead e es more in
    let rest = runs_of (drop more es) in
    let is : runs_of (e ∷ es) ≡ r ∷ rest = front_run e es in
    let within = run_within e es in
    let count : length r.cells ≡ more + 1 = omega (arith, length-knowns more es within) in
    let len : length (runs_bytes (runs_of (e ∷ es))) ≡ (16 + length (knowns_bytes r.cells)) + length (runs_bytes rest) = ap (λ (rs : List PlacedRun). length (runs_bytes rs)) is ∙ runs_len r rest in
    let parts = knowns_len e.1 ks in
    record {
      runs = is;
      there = within;
      count = count;
      first = omega (arith, len, parts);
      others = omega (arith, len, parts);
      few = omega (arith, len, count, knowns_short r.cells);
    }

pub ahead : (cells : List Entry) (e : Entry) (es : List Entry) (count more : ℕ) → cells ≡ e ∷ es → count ≡ run_len cells → more + 1 ≡ count → Ahead cells e es more
ahead cells e es count more is len next =
    let n : count ≡ suc (run_behind e.0 es) = len ∙ ap run_len is in
    let same : run_behind e.0 es ≡ more = omega (arith, n, next) in
    subst (λ (xs : List Entry). Ahead xs e es more) (sym is) (subst (λ (m : ℕ). Ahead (e ∷ es) e es m) same (ahead_of e es))

-- no run is left
pub none_left : (es : List Entry) → run_len es ≤ 0 → es ≡ []
none_left [] h = refl
none_left (e ∷ es) h = absurd (omega (arith, h))

-- ---- what is known at so many cells, one after another

pub take_ahead : (cells : List Entry) (e : Entry) (es : List Entry) (count i : ℕ) → i < count → cells ≡ e ∷ es → take (count - i) cells ≡ e ∷ take (count - (i + 1)) es
take_ahead cells e es count i lt is = let n : count - i ≡ suc (count - (i + 1)) = omega (arith, lt) in ap (λ (xs : List Entry). take (count - i) xs) is ∙ ap (λ (m : ℕ). take m (e ∷ es)) n

pub drop_ahead : (cells : List Entry) (e : Entry) (es : List Entry) (count i : ℕ) → i < count → cells ≡ e ∷ es → drop (count - i) cells ≡ drop (count - (i + 1)) es
drop_ahead cells e es count i lt is = let n : count - i ≡ suc (count - (i + 1)) = omega (arith, lt) in ap (λ (xs : List Entry). drop (count - i) xs) is ∙ ap (λ (m : ℕ). drop m (e ∷ es)) n

pub knowns_ahead : (cells : List Entry) (e : Entry) (es : List Entry) (count i : ℕ) → i < count → cells ≡ e ∷ es
    → length (knowns_bytes (knowns_of (take (count - i) cells))) ≡ length (known_bytes e.1) + length (knowns_bytes (knowns_of (take (count - (i + 1)) es)))
knowns_ahead cells e es count i lt is = ap (λ (xs : List Entry). length (knowns_bytes (knowns_of xs))) (take_ahead cells e es count i lt is) ∙ knowns_len e.1 (knowns_of (take (count - (i + 1)) es))

-- none are left
pub taken_all : (es : List Entry) (count i : ℕ) → count ≤ i → take (count - i) es ≡ []
taken_all es count i le = let n : count - i ≡ 0 = omega (arith, le) in ap (λ (m : ℕ). take m es) n

pub dropped_none : (es : List Entry) (count i : ℕ) → count ≤ i → drop (count - i) es ≡ es
dropped_none es count i le = let n : count - i ≡ 0 = omega (arith, le) in ap (λ (m : ℕ). drop m es) n
