-- Lengths of what is spelled.
use Rattle.std.proofs.Common.{◌≡◌, ℕ, suc, ◌<◌, ◌≤◌, ◌+◌, ◌*◌, ◌-◌, ◌^◌, Bool, true, false, cond, List, [], ◌∷◌, ◌++◌, length, arith, ap, refl, ◌∙◌, length-append}
use Rattle.std.specs.Prelude.{ℤ, min}
use Rattle.std.specs.List.{flat_map}
use Rattle.std.specs.Int.{w32, to_be_bytes}
use Rattle.std.proofs.lemmas.List.Concat.{flat_map-cons}
use Rattle.mpi_model.specs.declared.list.elements.Element.{Element}
use Rattle.mpi_model.specs.declared.told.Told.{Told}
use Rattle.trace_know.specs.declared.cell.Known.{Known}
use Rattle.trace_wire.specs.Forms.{Form, list, signed}
use Rattle.trace_wire.specs.Fields.{element, told}
use Rattle.trace_know.specs.Listing.{is_behind, run_len}
use Rattle.trace_wire.specs.declared.version.Version.{Version}
use Rattle.trace_wire.specs.declared.version.Version.TheVariants.{One, Two}
use Rattle.trace_wire.specs.Cells.{Entry, cell_bytes, cells_bytes, known_bytes, knowns_bytes, knowns_of, place_form}
use Rattle.trace_wire.specs.Runs.{PlacedRun, in_front, placed_run, run_bytes, runs_bytes, runs_of}
use Rattle.trace_wire.specs.Frames.{frame_as, head_of, parts_in, payload_as}
use Rattle.trace_wire.specs.Sizes.{head_len, part_end}
use Rattle.trace_wire.proofs.FormLaws.{items_short}
use Rattle.trace_wire.proofs.RunCells.{one_more_run}

-- items of four and of eight bytes
width4 : {A : Type 0} (spell : A → List ℕ) → ((a : A) → length (spell a) ≡ 4) → (xs : List A) → length (flat_map spell xs) ≡ length xs * 4
width4 spell each [] = refl
width4 spell each (x ∷ xs) =
    let len = ap length (flat_map-cons spell x xs) ∙ length-append (spell x) (flat_map spell xs) in
    omega (arith, len, each x, width4 spell each xs)

width8 : {A : Type 0} (spell : A → List ℕ) → ((a : A) → length (spell a) ≡ 8) → (xs : List A) → length (flat_map spell xs) ≡ length xs * 8
width8 spell each [] = refl
width8 spell each (x ∷ xs) =
    let len = ap length (flat_map-cons spell x xs) ∙ length-append (spell x) (flat_map spell xs) in
    omega (arith, len, each x, width8 spell each xs)

pub requests_len : (xs : List ℤ) → length ((list signed).spell xs) ≡ 4 + length xs * 8
requests_len xs = length-append (to_be_bytes w32 (length xs)) (flat_map signed.spell xs) ∙ ap (λ (n : ℕ). 4 + n) (width8 signed.spell (λ a. refl) xs)

pub sources_len : (xs : List Told) → length ((list told).spell xs) ≡ 4 + length xs * 4
sources_len xs = length-append (to_be_bytes w32 (length xs)) (flat_map told.spell xs) ∙ ap (λ (n : ℕ). 4 + n) (width4 told.spell (λ a. refl) xs)

pub elements_len : (xs : List Element) → length ((list element).spell xs) ≡ 4 + length xs * 8
elements_len xs = length-append (to_be_bytes w32 (length xs)) (flat_map element.spell xs) ∙ ap (λ (n : ℕ). 4 + n) (width8 element.spell (λ a. refl) xs)

-- a list whose spelling has a length of 32 bits has a count of 32 bits
list_short : {A : Type 0} (form : Form A) → ((a : A) → 0 < length (form.spell a)) → (xs : List A) → length ((list form).spell xs) < 2 ^ 32 → length xs < 2 ^ 32
list_short form some xs short = omega (arith, items_short form.spell some xs, length-append (to_be_bytes w32 (length xs)) (flat_map form.spell xs), short)

pub requests_short : (xs : List ℤ) → length ((list signed).spell xs) < 2 ^ 32 → length xs < 2 ^ 32
requests_short xs short = list_short signed (λ z. omega arith) xs short

pub sources_short : (xs : List Told) → length ((list told).spell xs) < 2 ^ 32 → length xs < 2 ^ 32
sources_short xs short = list_short told (λ z. omega arith) xs short

pub elements_short : (xs : List Element) → length ((list element).spell xs) < 2 ^ 32 → length xs < 2 ^ 32
elements_short xs short = list_short element (λ z. omega arith) xs short

-- a cell has a rank and a place, and what is known
pub cell_len : (here : ℕ × ℕ) (known : Known) → length (cell_bytes (here, known)) ≡ 12 + length (known_bytes known)
cell_len here known = length-append (place_form.spell here) (known_bytes known)

pub cells_len : (e : Entry) (es : List Entry) → length (cells_bytes (e ∷ es)) ≡ (12 + length (known_bytes e.1)) + length (cells_bytes es)
cells_len e es = ap length (flat_map-cons cell_bytes e es) ∙ length-append (cell_bytes e) (cells_bytes es) ∙ ap (λ (n : ℕ). n + length (cells_bytes es)) (cell_len e.0 e.1)

pub knowns_len : (k : Known) (ks : List Known) → length (knowns_bytes (k ∷ ks)) ≡ length (known_bytes k) + length (knowns_bytes ks)
knowns_len k ks = ap length (flat_map-cons known_bytes k ks) ∙ length-append (known_bytes k) (knowns_bytes ks)

-- a run has a rank, a first place, a count, and what is known
pub run_size : (r : PlacedRun) → length (run_bytes r) ≡ 16 + length (knowns_bytes r.cells)
run_size r =
    let count = to_be_bytes w32 (length r.cells) in
    omega (arith, length-append (place_form.spell (r.rank, r.first)) (count ++ knowns_bytes r.cells), length-append count (knowns_bytes r.cells))

pub runs_len : (r : PlacedRun) (rs : List PlacedRun) → length (runs_bytes (r ∷ rs)) ≡ (16 + length (knowns_bytes r.cells)) + length (runs_bytes rs)
runs_len r rs = ap length (flat_map-cons run_bytes r rs) ∙ length-append (run_bytes r) (runs_bytes rs) ∙ ap (λ (n : ℕ). n + length (runs_bytes rs)) (run_size r)

-- ---- payloads

all_cells : (es : List Entry) → length (cells_bytes es) ≡ length es * 12 + length (knowns_bytes (knowns_of es))
all_cells [] = refl
all_cells (e ∷ es) = omega (arith, cells_len e es, knowns_len e.1 (knowns_of es), all_cells es)

-- one cell more in front of runs
front_len : (b : Bool) (e : Entry) (r : PlacedRun) (rs : List PlacedRun)
    → length (runs_bytes (cond b (placed_run e.0 (e.1 ∷ r.cells) ∷ rs) (placed_run e.0 (e.1 ∷ []) ∷ r ∷ rs))) + length (r ∷ rs) * 16
    ≡ length (cond b (placed_run e.0 (e.1 ∷ r.cells) ∷ rs) (placed_run e.0 (e.1 ∷ []) ∷ r ∷ rs)) * 16 + (length (known_bytes e.1) + length (runs_bytes (r ∷ rs)))
front_len true e r rs = omega (arith, runs_len (placed_run e.0 (e.1 ∷ r.cells)) rs, runs_len r rs, knowns_len e.1 r.cells)
front_len false e r rs = omega (arith, runs_len (placed_run e.0 (e.1 ∷ [])) (r ∷ rs), knowns_len e.1 [])

front_size : (e : Entry) (rs : List PlacedRun) → length (runs_bytes (in_front e rs)) + length rs * 16 ≡ length (in_front e rs) * 16 + (length (known_bytes e.1) + length (runs_bytes rs))
front_size e [] = omega (arith, runs_len (placed_run e.0 (e.1 ∷ [])) [], knowns_len e.1 [])
front_size e (r ∷ rs) = front_len (is_behind e.0 (r.rank, r.first)) e r rs

all_runs : (es : List Entry) → length (runs_bytes (runs_of es)) ≡ length (runs_of es) * 16 + length (knowns_bytes (knowns_of es))
all_runs [] = refl
all_runs (e ∷ es) = omega (arith, front_size e (runs_of es), knowns_len e.1 (knowns_of es), all_runs es)

pub payload_len : (version : Version) (es : List Entry) → length (payload_as version es) ≡ 4 + (parts_in version es * head_len version + length (knowns_bytes (knowns_of es)))
payload_len One es = length-append (to_be_bytes w32 (length es)) (cells_bytes es) ∙ ap (λ (n : ℕ). 4 + n) (all_cells es)
payload_len Two es = length-append (to_be_bytes w32 (length (runs_of es))) (runs_bytes (runs_of es)) ∙ ap (λ (n : ℕ). 4 + n) (all_runs es)

pub frame_size : (version : Version) (es : List Entry) → length (frame_as version es) ≡ 10 + length (payload_as version es)
frame_size version es = length-append (head_of version (length (payload_as version es))) (payload_as version es)

-- there are no more runs than cells
few_more : (b : Bool) (e : Entry) (r : PlacedRun) (rs : List PlacedRun) → length (cond b (placed_run e.0 (e.1 ∷ r.cells) ∷ rs) (placed_run e.0 (e.1 ∷ []) ∷ r ∷ rs)) ≤ suc (length (r ∷ rs))
few_more true e r rs = omega arith
few_more false e r rs = omega arith

front_few : (e : Entry) (rs : List PlacedRun) → length (in_front e rs) ≤ suc (length rs)
front_few e [] = omega arith
front_few e (r ∷ rs) = few_more (is_behind e.0 (r.rank, r.first)) e r rs

pub runs_few : (es : List Entry) → length (runs_of es) ≤ length es
runs_few [] = omega arith
runs_few (e ∷ es) = omega (arith, front_few e (runs_of es), runs_few es)

-- ---- a payload is counted

pub parts_step : (version : Version) (e : Entry) (es : List Entry) → parts_in version (e ∷ es) ≡ part_end version (run_len (e ∷ es)) + parts_in version es
parts_step One e es = omega arith
parts_step Two e es = one_more_run e es

-- so many parts at most, or as many as can be counted
pub heads_capped : (version : Version) (parts all : ℕ) → parts ≡ min all (2 ^ 64 - 1) → min (parts * head_len version) (2 ^ 64 - 1) ≡ min (all * head_len version) (2 ^ 64 - 1)
heads_capped One parts all is = omega (arith, is)
heads_capped Two parts all is = omega (arith, is)
