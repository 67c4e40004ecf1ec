-- The texts of a cluster are read in memory, so no reader of one fails.
use Rattle.std.proofs.Common.{◌≡◌, ◌≤◌, ℕ, List, Option, Some, None, String, length, inl, inr, sym, subst}
use Rattle.std.specs.declared.alloc.Global.{Global}
use Rattle.dumpi_text.specs.declared.fault.TextCause.TheVariants.{Read}
use Rattle.trace_crew.specs.declared.piece.PieceFault.{PieceFault}
use Rattle.trace_crew.specs.declared.piece.PieceFault.TheVariants as causes
use Rattle.trace_crew.specs.declared.piece.TextPiece as texts
use Rattle.trace_crew.specs.Pieces.{IsOwn, IsRefusedFor}
use Rattle.trace_cluster.specs.declared.fault.ClusterFault.{ClusterFault}
use Rattle.trace_cluster.specs.declared.fault.ClusterFault.TheVariants as clusters
use Rattle.trace_cluster.specs.Pieces.{Placed}
use Rattle.trace_cluster.specs.Stopped.{IsStopped}
use Rattle.trace_cluster.specs.declared.exchange.fault.ExchangeFault.{ExchangeFault}
use Rattle.trace_cluster.specs.declared.exchange.fault.ExchangeFault.TheVariants as exchanges
use Rattle.trace_node.specs.declared.fault.NodeFault.{NodeFault}
use Rattle.trace_node.specs.declared.fault.NodeFault.TheVariants as nodes
use Rattle.trace_wire.specs.declared.fault.WireFault.{WireFault}
use Rattle.trace_wire.specs.declared.fault.WireFault.TheVariants as wires
use Rattle.mpi_model.specs.Layouts.{Parts}
use Rattle.run_files.specs.Manifests.{PieceParts}
use Rattle.dumpi_calls.specs.declared.collect.Memory.{Memory as NoMemory}
use Rattle.dumpi_calls.specs.declared.fault.WalkCause.{WalkCause}
use Rattle.command_runs.specs.Clusters.{IsFaultFor, IsTextFault, of_exchange, of_node, of_wire}
use Rattle.run_inputs.specs.Files.{FitsIn, IsFile, NamesFailed}
use Rattle.run_inputs.specs.Inputs.{RefusesFile}
use Rattle.run_inputs.specs.declared.faults.fault.RunFault.{RunFault}
use Rattle.run_inputs.specs.declared.faults.fault.RunFault.TheVariants.{Text}

-- a file whose bytes are at hand
pub fits : (most : ℕ) (file : Option (List ℕ)) (bytes : List ℕ) → IsFile file bytes → length bytes ≤ most → FitsIn most file
fits most None bytes is short = tt
fits most (Some told) bytes is short = subst (λ (b : List ℕ). length b ≤ most) (sym is) short

-- the bytes of a piece
pub file_untold : (most : ℕ) (fails : Type 0) (name : List ℕ) (file : Option (List ℕ)) (fault : RunFault) → RefusesFile most fails name file fault → NamesFailed ⊥ fault
file_untold most fails name file fault (inl memory) path line e = cc (memory, e)
file_untold most fails name file fault (inr h) path line e = let one = h.1 in cc (one, e)

-- a text in memory
text_untold : (piece : texts.TextPiece) (name : List ℕ) (fault : PieceFault) (path : String Global) (line : ℕ) → IsRefusedFor piece fault → IsTextFault name fault (Text Read path line) → ⊥
text_untold piece name (causes.Walk fault) path line why is = subst (λ (cause : WalkCause NoMemory). IsOwn cause) is.1 why.2
text_untold piece name (causes.Segment fault) path line why is = is
text_untold piece name causes.Memory path line why is = cc

node_untold : (fault : NodeFault) (path : String Global) (line : ℕ) → Text Read path line ≡ of_node fault → ⊥
node_untold nodes.Rank path line e = cc
node_untold nodes.Memory path line e = cc
node_untold nodes.Stale path line e = cc

wire_untold : (fault : WireFault) (path : String Global) (line : ℕ) → Text Read path line ≡ of_wire fault → ⊥
wire_untold wires.Memory path line e = cc
wire_untold wires.Read path line e = cc
wire_untold wires.Write path line e = cc
wire_untold wires.Magic path line e = cc
wire_untold wires.Version path line e = cc
wire_untold wires.Length path line e = cc
wire_untold wires.Short path line e = cc
wire_untold wires.Order path line e = cc
wire_untold wires.Content path line e = cc
wire_untold wires.Rest path line e = cc

exchange_untold : (fault : ExchangeFault) (path : String Global) (line : ℕ) → Text Read path line ≡ of_exchange fault → ⊥
exchange_untold (exchanges.Write fault) path line e = wire_untold fault path line e
exchange_untold (exchanges.Read fault) path line e = wire_untold fault path line e
exchange_untold (exchanges.Merge fault) path line e = node_untold fault path line e

stop_untold : (layout : Parts) (pieces : List PieceParts) (all : List Placed) (fault : ClusterFault) (path : String Global) (line : ℕ) → IsStopped layout all fault → IsFaultFor pieces fault (Text Read path line) → ⊥
stop_untold layout pieces all clusters.Memory path line stops is = cc
stop_untold layout pieces all clusters.Worker path line stops is = cc
stop_untold layout pieces all clusters.Net path line stops is = cc
stop_untold layout pieces all (clusters.Piece node at fault) path line stops is = text_untold stops.piece is.0.file fault path line stops.why is.2
stop_untold layout pieces all (clusters.Node fault) path line stops is = node_untold fault path line is
stop_untold layout pieces all (clusters.Lead fault) path line stops is = exchange_untold fault path line is
stop_untold layout pieces all (clusters.Follow fault) path line stops is = exchange_untold fault path line is

-- what stops a cluster
pub stopped_untold : (layout : Parts) (pieces : List PieceParts) (all : List Placed) (fault : ClusterFault) (run : RunFault) → IsStopped layout all fault → IsFaultFor pieces fault run → NamesFailed ⊥ run
stopped_untold layout pieces all fault run stops is path line e = stop_untold layout pieces all fault path line stops (subst (λ (r : RunFault). IsFaultFor pieces fault r) e is)
