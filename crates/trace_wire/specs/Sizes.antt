-- How a payload is counted without being written.
use Rattle.std.specs.Prelude.{ℕ, ◌==◌, if◌then◌else◌}
use Rattle.trace_wire.specs.declared.version.Version.{Version}
use Rattle.trace_wire.specs.declared.version.Version.TheVariants.{One, Two}

-- How many parts end at a cell, from which on so many cells stand without a gap: each cell is a part, or the last of a
-- run ends one.
abbrev pub part_end : Version → ℕ → ℕ
part_end One run_len = 1
part_end Two run_len = if run_len == 1 then 1 else 0

-- the bytes of a part before what is known: a rank and a place, and in version 2 a count
abbrev pub head_len : Version → ℕ
head_len One = 12
head_len Two = 16
