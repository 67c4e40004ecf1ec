-- Reading the parts of a payload, cells or runs, with the first fault.
use Rattle.std.specs.Prelude.{◌≡◌, ℕ, zero, suc, ◌+◌, ◌^◌, Bool, List, [], ◌∷◌, Option, Some, None, Result, Ok, Err, nat_le, nat_lt, ◌==◌, ◌&&◌, if◌then◌else◌}
use Rattle.std.specs.FinMap.{insert}
use Rattle.std.specs.Int.{w32}
use Rattle.trace_know.specs.declared.cell.Known.{Known}
use Rattle.trace_know.specs.declared.cell.Known.TheVariants as knowns
use Rattle.trace_know.specs.View.{View}
use Rattle.trace_wire.specs.declared.fault.WireFault.{WireFault}
use Rattle.trace_wire.specs.declared.fault.WireFault.TheVariants.{Order, Content}
use Rattle.trace_wire.specs.Forms.{◌>>=◌, number_at}
use Rattle.trace_wire.specs.Fields.{made}
use Rattle.trace_wire.specs.Events.{event_at}
use Rattle.trace_wire.specs.Cells.{Entry, cell_bytes, is_past, place_form}
use Rattle.trace_wire.specs.Runs.{PlacedRun, behind, placed_run, run_bytes}

infixl 10 ◌>=>◌
-- a step, where the one before was not refused
abbrev pub ◌>=>◌ : {A B : Type 0} → Result A WireFault → (A → Result B WireFault) → Result B WireFault
(Ok x) >=> f = f x
(Err e) >=> f = Err e

-- a value, or a fault where there is none
abbrev pub or_fault : {A : Type 0} → WireFault → Option A → Result A WireFault
or_fault fault None = Err fault
or_fault fault (Some x) = Ok x

-- ---- what stands at a place

-- by the code of a cell
abbrev pub known_by : ℕ → ℕ → List ℕ → Option (Known × List ℕ)
known_by place code bytes =
    if code == 0 then made (λ event. knowns.One event) (event_at place bytes) else (
    if code == 1 then Some (knowns.Contradiction, bytes) else None)

-- what stands at a place
abbrev pub known_at : ℕ → List ℕ → Option (Known × List ℕ)
known_at place [] = None
known_at place (code ∷ bytes) = known_by place code bytes

-- what stands at so many places from one on
unfoldable pub knowns_at : ℕ → ℕ → List ℕ → Option (List Known × List ℕ)
knowns_at place zero bytes = Some ([], bytes)
knowns_at place (suc n) bytes = do
  first ← known_at place bytes
  others ← knowns_at (place + 1) n first.1
  Some (first.0 ∷ others.0, others.1)

-- ---- in front of bytes, with the fault of what can't be read

-- a number of four bytes
abbrev pub next_count : List ℕ → Result (ℕ × List ℕ) WireFault
next_count bytes = or_fault Content (number_at w32 bytes)

-- a rank and a place
abbrev pub next_place : List ℕ → Result ((ℕ × ℕ) × List ℕ) WireFault
next_place bytes = or_fault Content (place_form.read bytes)

-- what stands at a place
abbrev pub next_known : ℕ → List ℕ → Result (Known × List ℕ) WireFault
next_known place bytes = or_fault Content (known_at place bytes)

-- what stands at so many places from one on
abbrev pub next_knowns : ℕ → ℕ → List ℕ → Result (List Known × List ℕ) WireFault
next_knowns first count bytes = or_fault Content (knowns_at first count bytes)

-- ---- a cell

-- after the rank and the place: their order, the greatest place, and what stands there
abbrev pub cell_after : Option (ℕ × ℕ) → (ℕ × ℕ) × List ℕ → Result (Entry × List ℕ) WireFault
cell_after before x =
    if is_past before x.0
    then (if nat_lt x.0.1 (2 ^ 40) then or_fault Content (made (λ k. (x.0, k)) (known_at x.0.1 x.1)) else Err Content)
    else Err Order

-- a cell that follows another: its place, and what comes behind it
abbrev pub cell_at : Option (ℕ × ℕ) → List ℕ → Result (Entry × List ℕ) WireFault
cell_at before bytes = or_fault Content (place_form.read bytes) >=> cell_after before

-- A cell that follows another stands in front of the bytes, at this place, and was put among what is known.
abbrev pub PutsCell : Option (ℕ × ℕ) → List ℕ → ℕ × ℕ → List ℕ → View → View → Type 0
PutsCell before bytes here rest old new = (known : Known) × (cell_at before bytes ≡ Ok ((here, known), rest)) × (new ≡ insert old here known)

-- ---- a run

-- A run has a cell, and ends where a trace can have places.
abbrev pub is_run : ℕ → ℕ → Bool
is_run first count = nat_lt 0 count && nat_le (first + count) (2 ^ 40)

-- after the count: whether it can be one, and so many cells
abbrev pub run_of_count : ℕ × ℕ → ℕ × List ℕ → Result (PlacedRun × List ℕ) WireFault
run_of_count here x = if is_run here.1 x.0 then or_fault Content (made (placed_run here) (knowns_at here.1 x.0 x.1)) else Err Content

-- after the rank and the first place: their order, the count, and what comes behind it
abbrev pub run_after : Option (ℕ × ℕ) → (ℕ × ℕ) × List ℕ → Result (PlacedRun × List ℕ) WireFault
run_after before x = if is_past before x.0 then (or_fault Content (number_at w32 x.1) >=> run_of_count x.0) else Err Order

-- a run that begins past the place right behind the run before: so no two of them touch
abbrev pub run_at : Option (ℕ × ℕ) → List ℕ → Result (PlacedRun × List ℕ) WireFault
run_at before bytes = or_fault Content (place_form.read bytes) >=> run_after before

-- ---- so many of them

-- A part of a payload: its spelling, its reading behind a place, and the place that the next one has to be past.
pub record Part (A : Type 0) : Type 0 where
  pub spell : A → List ℕ
  pub read : Option (ℕ × ℕ) → List ℕ → Result (A × List ℕ) WireFault
  pub end : A → ℕ × ℕ

-- the parts of version 1
abbrev pub cell : Part Entry
cell = record { spell = cell_bytes; read = cell_at; end = λ e. e.0 }

-- the parts of version 2
abbrev pub run : Part PlacedRun
run = record { spell = run_bytes; read = run_at; end = behind }

-- so many parts
unfoldable pub parts_at : {A : Type 0} → Part A → ℕ → Option (ℕ × ℕ) → List ℕ → Result (List A × List ℕ) WireFault
parts_at part zero before bytes = Ok ([], bytes)
parts_at part (suc n) before bytes = part.read before bytes >=> λ first. (parts_at part n (Some (part.end first.0)) first.1 >=> λ others. Ok (first.0 ∷ others.0, others.1))
