-- What the frames of a knowledge are, and which lists of cells have one.
use Rattle.std.specs.Prelude.{◌≡◌, ℕ, ◌≤◌, List, ◌∷◌, ◌++◌, length, None}
use Rattle.std.specs.Int.{w32}
use Rattle.std.specs.FinMap.{entries}
use Rattle.trace_know.specs.View.{View}
use Rattle.trace_wire.specs.declared.version.Version.{Version}
use Rattle.trace_wire.specs.declared.version.Version.TheVariants.{One, Two}
use Rattle.trace_wire.specs.Forms.{number}
use Rattle.trace_wire.specs.Cells.{AreCells, Entry, cells_bytes}
use Rattle.trace_wire.specs.Runs.{runs_bytes, runs_of}

-- how many parts a payload has: cells in version 1, and runs in version 2
abbrev pub parts_in : Version → List Entry → ℕ
parts_in One es = length es
parts_in Two es = length (runs_of es)

-- the parts one after another
abbrev pub parts_bytes : Version → List Entry → List ℕ
parts_bytes One es = cells_bytes es
parts_bytes Two es = runs_bytes (runs_of es)

-- what stands behind the head: how many parts, and the parts
abbrev pub payload_as : Version → List Entry → List ℕ
payload_as version es = (number w32).spell (parts_in version es) ++ parts_bytes version es

-- the number of a version
abbrev pub version_number : Version → ℕ
version_number One = 1
version_number Two = 2

-- `MPTX`, the version, and the length of what follows
abbrev pub head_of : Version → ℕ → List ℕ
head_of version len = 77 ∷ 80 ∷ 84 ∷ 88 ∷ 0 ∷ version_number version ∷ (number w32).spell len

-- the head, and the payload
abbrev pub frame_as : Version → List Entry → List ℕ
frame_as version es = head_of version (length (payload_as version es)) ++ payload_as version es

-- the most bytes of a payload
abbrev pub longest_of : Version → ℕ
longest_of One = 16777216
longest_of Two = 67108864

-- What has a frame of a version: cells in order and in their ranges, and no more than the longest payload holds.
abbrev pub HasFrameAs : Version → List Entry → Type 0
HasFrameAs version es = AreCells None es × (length (payload_as version es) ≤ longest_of version)

-- A frame of these cells, of one of the versions, stands in front of the bytes, and this behind it.
abbrev pub BeginsWithFrame : List ℕ → List Entry → List ℕ → Type 0
BeginsWithFrame bytes es rest = (version : Version) × (bytes ≡ frame_as version es ++ rest) × HasFrameAs version es

-- ---- version 2, which is written where no version is asked for

-- the payload of version 2
abbrev pub payload : List Entry → List ℕ
payload es = payload_as Two es

-- the frame of version 2
abbrev pub frame : List Entry → List ℕ
frame es = frame_as Two es

-- the limit of version 2
abbrev pub longest : ℕ
longest = longest_of Two

-- the cells have a frame of version 2
abbrev pub HasFrame : List Entry → Type 0
HasFrame es = HasFrameAs Two es

-- the frame of a view: that of its cells in rising order of rank and place
abbrev pub frame_of : View → List ℕ
frame_of view = frame (entries view)
