-- How large the frames of parts are, and how the parts are found cell by cell.
use Rattle.std.specs.Prelude.{◌≡◌, ◌⊎◌, ℕ, ◌+◌, ◌<◌, ◌≤◌, Bool, List, [], ◌∷◌, ◌++◌, length, map, if◌then◌else◌}
use Rattle.trace_wire.specs.declared.fault.WireFault.{WireFault}
use Rattle.trace_wire.specs.declared.fault.WireFault.TheVariants as faults
use Rattle.trace_wire.specs.declared.packed.plan.PartSize.{PartSize}
use Rattle.trace_wire.specs.Cells.{Entry}
use Rattle.trace_wire.specs.Frames.{payload}
use Rattle.trace_wire.specs.Packed.{AreParts, HasLongCell}
use Rattle.trace_wire.specs.Runs.{runs_of}

-- how many cells a part has, how many runs, and how many bytes its payload
abbrev pub size_of : List Entry → PartSize
size_of es = record { cells = length es; runs = length (runs_of es); len = length (payload es) }

-- These are the sizes of the parts of cells.
abbrev pub AreSizes : List Entry → List PartSize → Type 0
AreSizes es sizes = (parts : List (List Entry)) × AreParts es parts × (sizes ≡ map size_of parts)

-- the bytes of a cell that goes on with a run, or begins one
abbrev pub cell_len : Bool → ℕ → ℕ
cell_len goes_on known = (if goes_on then 0 else 16) + known

-- The part is longer by one cell.
pub record IsLonger (part : PartSize) (goes_on : Bool) (known : ℕ) (longer : PartSize) : Type 0 where
  pub cells : longer.cells ≡ part.cells + 1
  pub runs : longer.runs ≡ part.runs + (if goes_on then 0 else 1)
  pub len : longer.len ≡ part.len + cell_len goes_on known
  pub fits : longer.len ≤ 67108864

-- The cell is a part by itself, since it didn't go into the one before.
pub record IsNext (old new : List PartSize) (part : PartSize) (goes_on : Bool) (known : ℕ) (alone : PartSize) : Type 0 where
  pub plan : new ≡ old ++ part ∷ []
  pub full : 67108864 < part.len + cell_len goes_on known
  pub cells : alone.cells ≡ 1
  pub runs : alone.runs ≡ 1
  pub len : alone.len ≡ 20 + known
  pub fits : alone.len ≤ 67108864

-- A cell was added to the last part, or to the plan as one by itself.
abbrev pub AddsCell : List PartSize → List PartSize → PartSize → Bool → ℕ → PartSize → Type 0
AddsCell old new part goes_on known result = ((new ≡ old) × IsLonger part goes_on known result) ⊎ IsNext old new part goes_on known result

-- Why a cell was not added: no memory, or it goes into no frame.
abbrev pub NeedsMore : ℕ → WireFault → Type 0
NeedsMore known faults.Memory = Unit {0}
NeedsMore known faults.Length = 67108864 < 20 + known
NeedsMore known fault = ⊥

-- Why there is no plan.
abbrev pub IsUnplanned : List Entry → WireFault → Type 0
IsUnplanned es faults.Memory = Unit {0}
IsUnplanned es faults.Length = HasLongCell es
IsUnplanned es fault = ⊥
