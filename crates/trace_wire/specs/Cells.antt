-- Cells: a place of a rank, and what is known there.
use Rattle.std.specs.Prelude.{◌≡◌, ℕ, ⊤, Bool, true, List, [], ◌∷◌, ◌++◌, map, Option, Some, None, nat_lt, ◌==◌, ◌&&◌, if◌then◌else◌}
use Rattle.std.specs.List.{flat_map}
use Rattle.std.specs.Int.{w32, w64}
use Rattle.mpi_model.specs.Events.{IsEvent}
use Rattle.trace_know.specs.declared.cell.Known.{Known}
use Rattle.trace_know.specs.declared.cell.Known.TheVariants as knowns
use Rattle.trace_know.specs.Placed.{IsPlaced}
use Rattle.trace_wire.specs.Forms.{Form, number, pair}
use Rattle.trace_wire.specs.Events.{event_bytes}

-- a place of a rank, and what is known there
abbrev pub Entry : Type 0
Entry = (ℕ × ℕ) × Known

-- what is known of a place: one event, or a contradiction
abbrev pub known_bytes : Known → List ℕ
known_bytes (knowns.One event) = 0 ∷ event_bytes event
known_bytes knowns.Contradiction = 1 ∷ []

-- what is known at the places of cells
abbrev pub knowns_of : List Entry → List Known
knowns_of es = map (λ e. e.1) es

-- what is known of places one after another
abbrev pub knowns_bytes : List Known → List ℕ
knowns_bytes ks = flat_map known_bytes ks

-- a rank and a place
abbrev pub place_form : Form (ℕ × ℕ)
place_form = pair (number w32) (number w64)

-- a cell
abbrev pub cell_bytes : Entry → List ℕ
cell_bytes e = place_form.spell e.0 ++ known_bytes e.1

-- cells one after another
abbrev pub cells_bytes : List Entry → List ℕ
cells_bytes es = flat_map cell_bytes es

-- A place is past the one before.
abbrev pub is_past : Option (ℕ × ℕ) → ℕ × ℕ → Bool
is_past None here = true
is_past (Some before) here = if nat_lt before.0 here.0 then true else ((before.0 == here.0) && nat_lt before.1 here.1)

-- the values of an event that is known lie in their ranges
abbrev pub IsInRange : Known → Type 0
IsInRange (knowns.One event) = IsEvent event
IsInRange knowns.Contradiction = ⊤

-- all cells have values in their ranges
abbrev pub AreInRange : List Entry → Type 0
AreInRange [] = ⊤
AreInRange (e ∷ es) = IsInRange e.1 × AreInRange es

-- Each place is past the one before. What stands there can stand there, and lies in its range.
abbrev pub AreCells : Option (ℕ × ℕ) → List Entry → Type 0
AreCells before [] = ⊤
AreCells before (e ∷ es) = (is_past before e.0 ≡ true) × (IsPlaced e.0.0 e.0.1 e.1 × IsInRange e.1) × AreCells (Some e.0) es
