use Rattle.std.proofs.Common.{take}
use Rattle.trace_diagnosis.specs.Listed.{AreListed}
use Rattle.trace_diagnosis.proofs.listed.lists_of.Given as goal

abbrev pub invariant-loop-m : goal.invariant-loop-m
invariant-loop-m l = AreListed l.asked (take l.m-index l.messages) l.lists
