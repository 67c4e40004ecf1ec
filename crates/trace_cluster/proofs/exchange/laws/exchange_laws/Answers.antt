use Rattle.trace_wire.specs.declared.version.Version.TheVariants.{Two}
use Rattle.trace_cluster.proofs.Feeding.{frames_meet, nodes_meet}
use Rattle.trace_cluster.proofs.exchange.laws.exchange_laws.Goals as goal

pub returns-clause-frames : goal.returns-clause-frames
returns-clause-frames c =
    let laws = c.join_laws.ensures in
    frames_meet c.frame_laws.ensures.again (c.frame_laws.ensures.views Two Two) laws.associative laws.commutative laws.idempotent

pub returns-clause-nodes : goal.returns-clause-nodes
returns-clause-nodes c =
    let laws = c.join_laws.ensures in
    nodes_meet c.frame_laws.ensures.again (c.frame_laws.ensures.views Two Two) laws.associative laws.commutative laws.idempotent
