-- Names of operations.
use Rattle.std.specs.Prelude.{ℕ, ◌==◌, List, [], ◌++◌, codes, decimal, if◌then◌else◌}
use Rattle.mpi_model.specs.declared.event.OpName.{OpName}

-- a part of a Startall behind its first, as `.1`
abbrev pub further_part_text : ℕ → List ℕ
further_part_text part = codes "." ++ decimal part

-- the part of a Startall; the first, and every other call, has none
abbrev pub part_text : ℕ → List ℕ
part_text part = if part == 0 then [] else further_part_text part

-- the number of an operation's call, as `3`, or `3.1` behind the first part of a Startall
abbrev pub number_text : OpName → List ℕ
number_text n = decimal n.call ++ part_text n.part
