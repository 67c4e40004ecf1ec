use Rattle.std.proofs.Common.{Global, List, Vec, subst}
use Rattle.diagnosis_value.specs.declared.diagnosis.Need.{Need}
use Rattle.trace_diagnosis.specs.Askers.{shapes}
use Rattle.trace_diagnosis.specs.Graph.{HaveEdges}
use Rattle.trace_diagnosis.proofs.Drawn.{out_of_held}
use Rattle.trace_diagnosis.proofs.graph.graph_of.Goals as goal

pub returns-clause-held : goal.returns-clause-held
returns-clause-held c = out_of_held c.args.able.now (shapes c.args.conditions.now) c.args.ranks c.in_ok-needs.needs.items c.in_ok-edges.edges.items c.in_ok-needs.ensures.needs
    (subst (λ (l : List (Vec Need Global)). HaveEdges c.args.ranks l c.in_ok-edges.edges.items) c.deref.ensures.value c.in_ok-edges.ensures.edges)
