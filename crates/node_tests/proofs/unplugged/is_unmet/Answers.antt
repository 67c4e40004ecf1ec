use Rattle.node_tests.proofs.Knowing.{none_known}
use Rattle.node_tests.proofs.unplugged.is_unmet.Goals as goal

pub cluster-requires-clause-first : goal.cluster-requires-clause-first
cluster-requires-clause-first g c κs within rank place some = none_known _ c.workload-first.ensures _ rank place some

pub cluster-requires-clause-second : goal.cluster-requires-clause-second
cluster-requires-clause-second g c κs within rank place some = none_known _ c.workload-second.ensures _ rank place some
