-- Reading a payload and a frame, with the first fault: the order of refusals.
use Rattle.std.specs.Prelude.{ℕ, Bool, List, [], ◌∷◌, length, take, drop, Option, Some, None, Result, Ok, Err, nat_lt, ◌==◌, ◌&&◌, if◌then◌else◌}
use Rattle.std.specs.Int.{w32}
use Rattle.trace_wire.specs.declared.fault.WireFault.{WireFault}
use Rattle.trace_wire.specs.declared.fault.WireFault.TheVariants as faults
use Rattle.trace_wire.specs.declared.version.Version.{Version}
use Rattle.trace_wire.specs.declared.version.Version.TheVariants.{One, Two}
use Rattle.trace_wire.specs.Forms.{number_at}
use Rattle.trace_wire.specs.Cells.{Entry}
use Rattle.trace_wire.specs.Runs.{cells_in}
use Rattle.trace_wire.specs.Parts.{◌>=>◌, or_fault, cell, parts_at, run}
use Rattle.trace_wire.specs.Frames.{longest_of}

-- so many parts, as the cells in them, and the bytes behind them
abbrev pub parts_of : Version → ℕ → List ℕ → Result (List Entry × List ℕ) WireFault
parts_of One count bytes = parts_at cell count None bytes
parts_of Two count bytes = parts_at run count None bytes >=> λ x. Ok (cells_in x.0, x.1)

-- nothing stands behind the last part
abbrev pub no_rest : List Entry × List ℕ → Result (List Entry) WireFault
no_rest x = if length x.1 == 0 then Ok x.0 else Err faults.Rest

-- all of a payload: a count, and just so many parts
unfoldable pub payload_of : Version → List ℕ → Result (List Entry) WireFault
payload_of version bytes = (or_fault faults.Content (number_at w32 bytes) >=> λ n. parts_of version n.0 n.1) >=> no_rest

-- the bytes of `MPTX`
abbrev pub is_magic : ℕ → ℕ → ℕ → ℕ → Bool
is_magic a b c d = ((a == 77) && (b == 80)) && ((c == 84) && (d == 88))

-- the version that two bytes tell
abbrev pub version_of : ℕ → ℕ → Option Version
version_of a b = if a == 0 then (if b == 1 then Some One else (if b == 2 then Some Two else None)) else None

-- the payload, where it is there
abbrev pub body_of : Version → ℕ × List ℕ → Result (List Entry × List ℕ) WireFault
body_of version len =
    if nat_lt (length len.1) len.0
    then Err faults.Short
    else (payload_of version (take len.0 len.1) >=> λ es. Ok (es, drop len.0 len.1))

-- within the limit of the version
abbrev pub limited : ℕ × List ℕ → Version → Result (List Entry × List ℕ) WireFault
limited len version = if nat_lt (longest_of version) len.0 then Err faults.Length else body_of version len

-- what follows a head, by what its bytes say and the length that it tells
abbrev pub framed : Bool → Option Version → ℕ × List ℕ → Result (List Entry × List ℕ) WireFault
framed magic version len = if magic then (or_fault faults.Version version >=> limited len) else Err faults.Magic

-- The cells of the frame in front of the bytes and what follows it, or the first fault: the whole order of refusals.
unfoldable pub frame_at : List ℕ → Result (List Entry × List ℕ) WireFault
frame_at (a ∷ b ∷ c ∷ d ∷ e ∷ f ∷ rest) = or_fault faults.Short (number_at w32 rest) >=> framed (is_magic a b c d) (version_of e f)
frame_at [] = Err faults.Short
frame_at (a ∷ []) = Err faults.Short
frame_at (a ∷ b ∷ []) = Err faults.Short
frame_at (a ∷ b ∷ c ∷ []) = Err faults.Short
frame_at (a ∷ b ∷ c ∷ d ∷ []) = Err faults.Short
frame_at (a ∷ b ∷ c ∷ d ∷ e ∷ []) = Err faults.Short
