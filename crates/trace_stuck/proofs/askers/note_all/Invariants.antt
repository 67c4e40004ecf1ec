use Rattle.std.proofs.Common.{take}
use Rattle.trace_stuck.specs.Named.{NotesAll}
use Rattle.trace_stuck.proofs.askers.note_all.Given as goal

abbrev pub invariant-loop-s : goal.invariant-loop-s
invariant-loop-s l = NotesAll l.fn.askers l.askers (take l.s-index l.ranks) l.r
