use Rattle.std.proofs.Common.{take}
use Rattle.trace_diagnosis.specs.Listed.{AreAsked}
use Rattle.trace_diagnosis.proofs.listed.asked_of.Given as goal

abbrev pub invariant-loop-q : goal.invariant-loop-q
invariant-loop-q l = AreAsked (take l.q-index l.receives) l.asked
