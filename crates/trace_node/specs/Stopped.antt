-- A stuck rank as plain data.
use Rattle.trace_stuck.specs.Shape.{shape}
use Rattle.trace_node.specs.Answer.{Stopped}
use Rattle.trace_node.specs.declared.stuck.Stuck.{Stuck}

-- what is told of a stuck rank, apart from where its condition's parts lie in memory
abbrev pub stopped : Stuck → Stopped
stopped s = record { rank = s.rank; call = s.call; wall = s.wall; waits = shape s.waits }
