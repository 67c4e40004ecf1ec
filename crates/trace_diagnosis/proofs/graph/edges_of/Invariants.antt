use Rattle.std.proofs.Common.{◌≡◌, take}
use Rattle.std.specs.Prelude.{vec_len}
use Rattle.trace_diagnosis.specs.Graph.{HaveEdges}
use Rattle.trace_diagnosis.proofs.graph.edges_of.Given as goal

abbrev pub invariant-loop-needs : goal.invariant-loop-needs
invariant-loop-needs l = record { len : vec_len l.edges ≡ l.needs-index; edges : HaveEdges l.ranks (take l.needs-index l.all) l.edges.items }
