-- Bytes put into a sink, and how many of them have reached the device.
use Rattle.std.specs.Prelude.{[], ◌∷◌, ◌<◌, ◌≤◌, ◌≡◌, ℕ, Bool, true, false, Option, List, ◌++◌, length}
use Rattle.std.specs.Io.KnownBytes.{Appends}
use Rattle.mpi_model.specs.Failures.{one_more}
use Rattle.mpi_model.specs.Side.{Side, LeavesSide}
use Rattle.trace_wire.specs.Cells.{Entry}
use Rattle.trace_wire.specs.Runs.{PlacedRun, run_bytes, runs_of}

-- How a sink stands: the name of the reference that it was lent; the bytes, the failures and the other side of its
-- device; what it still holds; and whether a write failed.
pub record Page : Type 0 where
  pub lent : ℕ
  pub out : Option (List ℕ)
  pub failures : ℕ
  pub side : Side
  pub pending : List ℕ
  pub failed : Bool

-- The bytes were put into the sink. What it held and they were cut in two: the device took `sent`, and the rest is
-- held, or lost after a failure. After a failure nothing is sent.
pub record Sends (s t : Page) (bytes : List ℕ) : Type 0 where
  pub sent : List ℕ
  pub rest : List ℕ
  pub whole : s.pending ++ bytes ≡ sent ++ rest
  pub out : Appends s.out t.out sent
  pub fine : t.failed ≡ false → (s.failed ≡ false) × (rest ≡ t.pending) × (t.failures ≡ s.failures)
  pub first : s.failed ≡ false → t.failed ≡ true → (0 < length rest) × (t.failures ≡ one_more s.failures)
  pub stays : s.failed ≡ true → (sent ≡ []) × (t.failed ≡ true) × (t.failures ≡ s.failures)
  pub later : s.failures ≤ t.failures
  pub beside : LeavesSide s.side t.side
  pub lent : t.lent ≡ s.lent

-- a device before a frame, and after it, where nothing is held any more
abbrev pub opening : Option (List ℕ) → ℕ → Side → Page
opening out failures side = record { lent = 0; out = out; failures = failures; side = side; pending = []; failed = false }

-- the device after a frame
abbrev pub closing : Option (List ℕ) → ℕ → Side → Bool → Page
closing out failures side failed = record { lent = 0; out = out; failures = failures; side = side; pending = []; failed = failed }

-- The first run of the cells was put into the sink, and these are left.
abbrev pub SendsRun : Page → Page → List Entry → List Entry → Type 0
SendsRun s t cells left = (r : PlacedRun) × (runs_of cells ≡ r ∷ runs_of left) × Sends s t (run_bytes r)

-- A front of the bytes was put into the sink, and the rest is still to come.
pub record Comes (s t : Page) (bytes rest : List ℕ) : Type 0 where
  pub front : List ℕ
  pub parts : bytes ≡ front ++ rest
  pub sends : Sends s t front
