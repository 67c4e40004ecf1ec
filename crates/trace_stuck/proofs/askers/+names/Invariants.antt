use Rattle.std.proofs.Common.{take}
use Rattle.std.specs.List.{flat_map}
use Rattle.trace_stuck.specs.Named.{named, NotesAll}
use Rattle.trace_stuck.proofs.askers.+names.Given as goal

abbrev pub invariant-note_each_named-loop-c : goal.invariant-note_each_named-loop-c
invariant-note_each_named-loop-c l = NotesAll l.fn.askers l.askers (flat_map named (take l.c-index l.parts)) l.r
