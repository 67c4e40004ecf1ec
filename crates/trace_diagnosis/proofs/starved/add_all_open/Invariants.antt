use Rattle.trace_pair.specs.Ends.{AreLast}
use Rattle.trace_diagnosis.specs.Listed.{opened}
use Rattle.trace_diagnosis.proofs.starved.add_all_open.Given as goal

abbrev pub invariant-loop-place : goal.invariant-loop-place
invariant-loop-place l = AreLast (opened l.receives l.place) l.ends
