-- Why a cluster leaves nothing.
use Rattle.std.specs.Prelude.{◌≡◌, List, ◌∷◌, ◌++◌, ⊤, All, Contains}
use Rattle.mpi_model.specs.Layouts.{Parts}
use Rattle.trace_node.specs.declared.fault.NodeFault.{NodeFault}
use Rattle.trace_node.specs.declared.fault.NodeFault.TheVariants as nodes
use Rattle.trace_crew.specs.declared.piece.TextPiece as pieces
use Rattle.trace_crew.specs.declared.piece.PieceAt.{PieceAt}
use Rattle.trace_crew.specs.declared.piece.PieceFault.{PieceFault}
use Rattle.trace_crew.specs.Pieces.{IsRefusedFor}
use Rattle.trace_cluster.specs.declared.fault.ClusterFault.{ClusterFault}
use Rattle.trace_cluster.specs.declared.fault.ClusterFault.TheVariants.{Worker, Memory, Piece, Node}
use Rattle.trace_cluster.specs.declared.side.Side.{Side}
use Rattle.trace_cluster.specs.Pieces.{Placed, IsForeign, IsWhole, IsWithin, placed}

-- Of all pieces this is the first whose segments were not found, and this is why.
pub record IsFirstFault (all : List Placed) (node : Side) (at : PieceAt) (fault : PieceFault) : Type 0 where
  pub before : List Placed
  pub piece : pieces.TextPiece
  pub after : List Placed
  pub all_are : all ≡ before ++ placed node at piece ∷ after
  pub whole : All (λ p. IsWhole p.piece) before
  pub why : IsRefusedFor piece fault

-- Why a segment was refused, or what a node is told besides: one is of a rank that the layout lacks, or there was no
-- memory.
abbrev pub IsRefusal : Parts → List Placed → NodeFault → Type 0
IsRefusal layout all nodes.Rank = (one : Placed) × Contains all one × IsForeign layout one.piece
IsRefusal layout all nodes.Memory = ⊤
IsRefusal layout all nodes.Stale = ⊥

-- Why a cluster leaves nothing: a crew left nothing; a piece is the first that is not whole; all are whole, and a
-- segment or what a node is told besides was refused; or all were joined, and there was no exchange.
abbrev pub IsStopped : Parts → List Placed → ClusterFault → Type 0
IsStopped layout all Worker = ⊤
IsStopped layout all Memory = ⊤
IsStopped layout all (Piece node at fault) = IsFirstFault all node at fault
IsStopped layout all (Node fault) = All (λ p. IsWhole p.piece) all × IsRefusal layout all fault
IsStopped layout all fault = All (λ p. IsWithin layout p.piece) all
