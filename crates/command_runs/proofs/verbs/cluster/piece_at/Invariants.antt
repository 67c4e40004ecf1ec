use Rattle.std.proofs.Common.{◌≡◌, drop}
use Rattle.trace_crew.specs.Pieces.{place_of}
use Rattle.command_runs.specs.Clusters.{piece_at}
use Rattle.command_runs.proofs.verbs.cluster.piece_at.Given as goal

abbrev pub invariant-loop-piece : goal.invariant-loop-piece
invariant-loop-piece l = piece_at (drop l.piece-index l.pieces) l.node (place_of l.at.worker l.left) ≡ piece_at l.pieces l.node l.at
