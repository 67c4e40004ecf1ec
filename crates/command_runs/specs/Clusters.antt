-- What a cluster of two nodes prints, and why it is refused.
use Rattle.std.specs.Prelude.{◌≡◌, ◌≢◌, ◌≤◌, ◌⊎◌, ◌++◌, ℕ, List, [], Option, Some, codes, Contains, ⊤}
use Rattle.std.specs.List.{All, slice_get}
use Rattle.mpi_model.specs.Layouts.{Parts}
use Rattle.trace_know.specs.Trace.{Trace, view_of}
use Rattle.trace_know.specs.View.{View, IsBelow}
use Rattle.trace_node.specs.Answer.{Answered, IsAnswer}
use Rattle.trace_node.specs.Node.{Held}
use Rattle.trace_node.specs.declared.fault.NodeFault.{NodeFault}
use Rattle.trace_node.specs.declared.fault.NodeFault.TheVariants as nodes
use Rattle.trace_cluster.specs.declared.exchange.fault.ExchangeFault.{ExchangeFault}
use Rattle.trace_cluster.specs.declared.exchange.fault.ExchangeFault.TheVariants as exchanges
use Rattle.trace_wire.specs.declared.fault.WireFault.{WireFault}
use Rattle.trace_wire.specs.declared.fault.WireFault.TheVariants as wires
use Rattle.trace_crew.specs.declared.queue.item.Worker.TheVariants as workers
use Rattle.trace_crew.specs.declared.piece.PieceAt.{PieceAt}
use Rattle.trace_crew.specs.declared.piece.PieceFault.{PieceFault}
use Rattle.trace_crew.specs.declared.piece.PieceFault.TheVariants as causes
use Rattle.trace_cluster.specs.declared.side.Side.{Side}
use Rattle.trace_cluster.specs.declared.side.Side.TheVariants as sides
use Rattle.trace_cluster.specs.declared.fault.ClusterFault.{ClusterFault}
use Rattle.trace_cluster.specs.declared.fault.ClusterFault.TheVariants as clusters
use Rattle.run_files.specs.Manifests.{ManifestParts, PieceParts}
use Rattle.command_runs.specs.Packed.{RefusesFirstPacked, TellPacked}
use Rattle.run_inputs.specs.WalkFaults.{IsNamed, IsWalkFault}
use Rattle.command_runs.specs.Pieces.{TellsFacts}
use Rattle.command_runs.specs.Refusals.{RefusesFirst}
use Rattle.command_runs.specs.Replays.{node_text}
use Rattle.command_runs.specs.Shares.{KnowsShare}
use Rattle.command_runs.specs.NodeTexts.{RefusesBytes, share_of, side_of}
use Rattle.command_runs.specs.Traces.{IsInside, IsKnown}
use Rattle.run_inputs.specs.declared.faults.fault.RunFault.{RunFault}
use Rattle.run_inputs.specs.declared.faults.fault.RunFault.TheVariants as faults

-- ---- nodes

-- what one of two nodes knows: the first, or the second
abbrev pub known_by : Held → Held → Side → View
known_by one other sides.First = one.know
known_by one other sides.Second = other.know

-- All that the piece tells is known to the node that it names.
abbrev pub IsKnownTo : (List ℕ → Option (List ℕ)) → Held → Held → PieceParts → Type 0
IsKnownTo file one other piece = (facts : Trace) × TellsFacts (file piece.file) piece.rank piece.first facts
    × IsBelow (view_of facts) (known_by one other (side_of piece.node))

-- Two nodes of the layout, each of which knows its own pieces of the manifest: the texts, and the packed files.
abbrev pub AreClusterNodes : (List ℕ → Option (List ℕ)) → Parts → ManifestParts → Held → Held → Type 0
AreClusterNodes file l m one other = (one.layout ≡ l) × (other.layout ≡ l) × All (IsKnownTo file one other) m.pieces
    × ((node : Side) → KnowsShare file l.ranks m.packed node (known_by one other node))

-- ---- what is printed

-- `equal yes` where both answers are the same, and `equal no` where they aren't
abbrev pub IsEqualLine : Answered → Answered → List ℕ → Type 0
IsEqualLine one other text = ((one ≡ other) × (text ≡ codes "equal yes\n")) ⊎ ((one ≢ other) × (text ≡ codes "equal no\n"))

-- the line and the report of each node, and then whether both answers are the same
abbrev pub IsBothText : Answered → Answered → List ℕ → Type 0
IsBothText one other text = (line : List ℕ) × IsEqualLine one other line × (text ≡ node_text 0 one ++ (node_text 1 other ++ line))

-- what two nodes print by their answers
abbrev pub SayBoth : Held → Held → List ℕ → Type 0
SayBoth one other text = (a b : Answered) × IsAnswer one.layout one.know a × IsAnswer other.layout other.know b × IsBothText a b text

-- The text of a cluster: what two nodes of its layout print, each of which knows its own pieces.
abbrev pub IsClusterOf : (List ℕ → Option (List ℕ)) → Parts → ManifestParts → List ℕ → Type 0
IsClusterOf file l m text = (one other : Held) × AreClusterNodes file l m one other × SayBoth one other text

-- ---- why a cluster is refused

-- the pieces by node, by worker, and then in the manifest's order
abbrev pub by_node : List PieceParts → List PieceParts
by_node pieces = (share_of sides.First workers.First pieces ++ share_of sides.First workers.Second pieces)
    ++ (share_of sides.Second workers.First pieces ++ share_of sides.Second workers.Second pieces)

-- The pieces are whole: what they tell together is known.
abbrev pub AreWhole : (List ℕ → Option (List ℕ)) → List PieceParts → Type 0
AreWhole file pieces = (view : View) × IsKnown file pieces view

-- They are whole, and of ranks of the layout, but for those that tell no call.
abbrev pub AreSound : (List ℕ → Option (List ℕ)) → ℕ → List PieceParts → Type 0
AreSound file ranks pieces = AreWhole file pieces × All (IsInside file ranks) pieces

-- The piece tells a call of a rank that the layout doesn't have.
abbrev pub IsOutside : (List ℕ → Option (List ℕ)) → ℕ → PieceParts → Type 0
IsOutside file ranks piece = (ranks ≤ piece.rank) × ((facts : Trace) × TellsFacts (file piece.file) piece.rank piece.first facts × (facts ≢ []))

-- They are whole, and one is of a rank that the layout doesn't have.
abbrev pub HaveStranger : (List ℕ → Option (List ℕ)) → ℕ → List PieceParts → Type 0
HaveStranger file ranks pieces = AreWhole file pieces × ((piece : PieceParts) × Contains pieces piece × IsOutside file ranks piece)

-- Why the crews of both nodes leave nothing, or there is no exchange, once all texts were read. The first text that is
-- refused is named. A rank that the layout doesn't have comes of a piece, or else of a frame, and that and what threads
-- and sockets are refused for is told of no file.
abbrev pub RefusesCrews : (List ℕ → Option (List ℕ)) → ℕ → List PieceParts → RunFault → Type 0
RefusesCrews file ranks pieces faults.Memory = ⊤
RefusesCrews file ranks pieces faults.Worker = ⊤
RefusesCrews file ranks pieces (faults.Text cause path line) = RefusesFirst file pieces (faults.Text cause path line)
RefusesCrews file ranks pieces (faults.Missing parameter path line) = RefusesFirst file pieces (faults.Missing parameter path line)
RefusesCrews file ranks pieces (faults.Wrong parameter path line) = RefusesFirst file pieces (faults.Wrong parameter path line)
RefusesCrews file ranks pieces (faults.Place path) = RefusesFirst file pieces (faults.Place path)
RefusesCrews file ranks pieces faults.Outside = HaveStranger file ranks pieces ⊎ AreSound file ranks pieces
RefusesCrews file ranks pieces faults.Net = AreSound file ranks pieces
RefusesCrews file ranks pieces (faults.Frame fault) = AreSound file ranks pieces
RefusesCrews file ranks pieces _ = ⊥

-- Why there is no cluster: a packed file is refused; or, where all of them were read, a file of a text can't be read,
-- by readers that fail so; or, where all were, the crews are refused.
abbrev pub RefusesCluster : Type 0 → (List ℕ → Option (List ℕ)) → ℕ → ManifestParts → RunFault → Type 0
RefusesCluster fails file ranks m fault = (fault ≡ faults.Memory) ⊎ (RefusesFirstPacked file ranks m.packed fault
    ⊎ (((view : View) × TellPacked file ranks m.packed view) × (RefusesBytes fails file m.pieces fault ⊎ RefusesCrews file ranks (by_node m.pieces) fault)))

-- ---- faults of a cluster as faults of a run

-- The fault of a run stands for that of a text, and names the file.
abbrev pub IsTextFault : List ℕ → PieceFault → RunFault → Type 0
IsTextFault name (causes.Walk fault) run = IsWalkFault name fault run
IsTextFault name (causes.Segment fault) (faults.Place path) = IsNamed path name
IsTextFault name (causes.Segment fault) _ = ⊥
IsTextFault name causes.Memory run = run ≡ faults.Memory

-- a node loses its answer for want of memory alone
abbrev pub of_node : NodeFault → RunFault
of_node nodes.Rank = faults.Outside
of_node nodes.Memory = faults.Memory
of_node nodes.Stale = faults.Memory

-- what the fault of a frame is to a run: want of memory, or that fault
abbrev pub of_wire : WireFault → RunFault
of_wire wires.Memory = faults.Memory
of_wire fault = faults.Frame fault

-- what the fault of an exchange is to a run: that of its frame, or that of the node that joins it
abbrev pub of_exchange : ExchangeFault → RunFault
of_exchange (exchanges.Write fault) = of_wire fault
of_exchange (exchanges.Read fault) = of_wire fault
of_exchange (exchanges.Merge fault) = of_node fault

-- the piece at a place of a node's worker
abbrev pub piece_at : List PieceParts → Side → PieceAt → Option PieceParts
piece_at pieces node at = slice_get (share_of node at.worker pieces) at.place

-- A fault of a piece names one of these.
abbrev pub NamesOne : List PieceParts → ClusterFault → Type 0
NamesOne pieces (clusters.Piece node at fault) = (piece : PieceParts) × (piece_at pieces node at ≡ Some piece)
NamesOne pieces fault = ⊤

-- The fault of a run stands for that of a cluster of these pieces.
abbrev pub IsFaultFor : List PieceParts → ClusterFault → RunFault → Type 0
IsFaultFor pieces clusters.Memory run = run ≡ faults.Memory
IsFaultFor pieces clusters.Worker run = run ≡ faults.Worker
IsFaultFor pieces clusters.Net run = run ≡ faults.Net
IsFaultFor pieces (clusters.Piece node at fault) run = (piece : PieceParts)
    × (piece_at pieces node at ≡ Some piece) × IsTextFault piece.file fault run
IsFaultFor pieces (clusters.Node fault) run = run ≡ of_node fault
IsFaultFor pieces (clusters.Lead fault) run = run ≡ of_exchange fault
IsFaultFor pieces (clusters.Follow fault) run = run ≡ of_exchange fault
