-- Reading parts one after the other, as a loop does, and putting their cells into knowledge.
use Rattle.std.proofs.Common.{◌≡◌, ℕ, suc, ◌-◌, ◌+◌, ◌≤◌, ◌<◌, List, [], ◌∷◌, ◌++◌, Option, Some, Result, Ok, Err, refl, sym, ap, ◌∙◌, append_assoc, arith}
use Rattle.std.specs.List.{flat_map}
use Rattle.std.proofs.lemmas.List.{append-nil}
use Rattle.std.proofs.lemmas.List.Concat.{flat_map-cons}
use Rattle.trace_wire.specs.declared.fault.WireFault.{WireFault}
use Rattle.trace_wire.specs.declared.fault.WireFault.TheVariants as faults
use Rattle.trace_wire.specs.Cells.{Entry}
use Rattle.trace_wire.specs.Parts.{◌>=>◌, Part, parts_at}
use Rattle.trace_wire.specs.Outcomes.{FailsWith}

-- the cells that are read, or the first fault
abbrev pub CellsRead : Type 0
CellsRead = Result (List Entry × List ℕ) WireFault

-- the cells in parts
abbrev pub in_parts : {A : Type 0} → (A → List Entry) → List A × List ℕ → CellsRead
in_parts cells x = Ok (flat_map cells x.0, x.1)

-- the cells in so many parts
abbrev pub cells_at : {A : Type 0} → Part A → (A → List Entry) → ℕ → Option (ℕ × ℕ) → List ℕ → CellsRead
cells_at part cells n before bytes = parts_at part n before bytes >=> in_parts cells

-- a part before others
abbrev with_first : {A : Type 0} → A → List A × List ℕ → Result (List A × List ℕ) WireFault
with_first a x = Ok (a ∷ x.0, x.1)

-- what was read before, and what is still read
abbrev pub cells_after : List Entry → CellsRead → CellsRead
cells_after front read = read >=> λ x. Ok (front ++ x.0, x.1)

first_of : {A : Type 0} (cells : A → List Entry) (a : A) (read : Result (List A × List ℕ) WireFault) → ((read >=> with_first a) >=> in_parts cells) ≡ cells_after (cells a) (read >=> in_parts cells)
first_of cells a (Ok x) = ap (λ (es : List Entry). Ok (es, x.1)) (flat_map-cons cells a x.0)
first_of cells a (Err fault) = refl

regroup : (front more : List Entry) (read : CellsRead) → cells_after front (cells_after more read) ≡ cells_after (front ++ more) read
regroup front more (Ok x) = ap (λ (es : List Entry). Ok (es, x.1)) (sym (append_assoc front more x.0))
regroup front more (Err fault) = refl

pub goes_on : {A : Type 0} (part : Part A) (cells : A → List Entry) (front : List Entry) (count i : ℕ) (before : Option (ℕ × ℕ)) (bytes : List ℕ) (a : A) (after : List ℕ) (total : CellsRead) → i < count → part.read before bytes ≡ Ok (a, after)
    → cells_after front (cells_at part cells (count - i) before bytes) ≡ total → cells_after (front ++ cells a) (cells_at part cells (count - (i + 1)) (Some (part.end a)) after) ≡ total
unfolding parts_at
goes_on part cells front count i before bytes a after total lt h so_far =
    let left = parts_at part (count - (i + 1)) (Some (part.end a)) after in
    let k : count - i ≡ suc (count - (i + 1)) = omega arith in
    let one : cells_at part cells (count - i) before bytes ≡ cells_after (cells a) (cells_at part cells (count - (i + 1)) (Some (part.end a)) after) = rw (k, h) (first_of cells a left) in
    sym (ap (cells_after front) one ∙ regroup front (cells a) (cells_at part cells (count - (i + 1)) (Some (part.end a)) after)) ∙ so_far

pub stops : {A : Type 0} (part : Part A) (cells : A → List Entry) (front : List Entry) (count i : ℕ) (before : Option (ℕ × ℕ)) (bytes : List ℕ) (fault : WireFault) (total : CellsRead) → i < count → part.read before bytes ≡ Err fault
    → cells_after front (cells_at part cells (count - i) before bytes) ≡ total → total ≡ Err fault
unfolding parts_at
stops part cells front count i before bytes fault total lt h so_far =
    let k : count - i ≡ suc (count - (i + 1)) = omega arith in
    let one : cells_after front (cells_at part cells (count - i) before bytes) ≡ Err fault = rw (k, h) refl in
    sym so_far ∙ one

pub ends : {A : Type 0} (part : Part A) (cells : A → List Entry) (fault : WireFault) (front : List Entry) (count i : ℕ) (before : Option (ℕ × ℕ)) (bytes : List ℕ) (total : CellsRead) → i < count → FailsWith fault (part.read before bytes)
    → cells_after front (cells_at part cells (count - i) before bytes) ≡ total → FailsWith fault total
ends part cells faults.Memory front count i before bytes total lt h so_far = tt
ends part cells faults.Read front count i before bytes total lt h so_far = stops part cells front count i before bytes faults.Read total lt h so_far
ends part cells faults.Write front count i before bytes total lt h so_far = stops part cells front count i before bytes faults.Write total lt h so_far
ends part cells faults.Magic front count i before bytes total lt h so_far = stops part cells front count i before bytes faults.Magic total lt h so_far
ends part cells faults.Version front count i before bytes total lt h so_far = stops part cells front count i before bytes faults.Version total lt h so_far
ends part cells faults.Length front count i before bytes total lt h so_far = stops part cells front count i before bytes faults.Length total lt h so_far
ends part cells faults.Short front count i before bytes total lt h so_far = stops part cells front count i before bytes faults.Short total lt h so_far
ends part cells faults.Order front count i before bytes total lt h so_far = stops part cells front count i before bytes faults.Order total lt h so_far
ends part cells faults.Content front count i before bytes total lt h so_far = stops part cells front count i before bytes faults.Content total lt h so_far
ends part cells faults.Rest front count i before bytes total lt h so_far = stops part cells front count i before bytes faults.Rest total lt h so_far

pub is_done : {A : Type 0} (part : Part A) (cells : A → List Entry) (front : List Entry) (count i : ℕ) (before : Option (ℕ × ℕ)) (bytes : List ℕ) (total : CellsRead) → count ≤ i → cells_after front (cells_at part cells (count - i) before bytes) ≡ total → total ≡ Ok (front, bytes)
unfolding parts_at
is_done part cells front count i before bytes total le so_far =
    let k : count - i ≡ 0 = omega arith in
    let one : cells_after front (cells_at part cells (count - i) before bytes) ≡ Ok (front, bytes) = rw k (ap (λ (ns : List Entry). Ok (ns, bytes)) (append-nil front)) in
    sym so_far ∙ one

-- before the first part
nothing_before : (read : CellsRead) → cells_after [] read ≡ read
nothing_before (Ok x) = refl
nothing_before (Err fault) = refl

pub starts : (es : List Entry) (read : CellsRead) → es ≡ [] → cells_after es read ≡ read
starts es read e = ap (λ (fs : List Entry). cells_after fs read) e ∙ nothing_before read

-- ---- cells that are parts themselves

-- a cell by itself
abbrev pub alone : Entry → List Entry
alone e = e ∷ []

each_alone : (es : List Entry) → flat_map alone es ≡ es
each_alone [] = refl
each_alone (e ∷ es) = flat_map-cons alone e es ∙ ap (λ (fs : List Entry). e ∷ fs) (each_alone es)

pub as_cells : (read : CellsRead) → (read >=> in_parts alone) ≡ read
as_cells (Ok x) = ap (λ (es : List Entry). Ok (es, x.1)) (each_alone x.0)
as_cells (Err fault) = refl
