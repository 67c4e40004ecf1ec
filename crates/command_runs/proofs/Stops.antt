-- Why the first piece is refused, and what else stops a cluster.
use Rattle.std.proofs.Common.{◌≡◌, [], inl, inr, ℕ, List, Option, Some, None, ap, sym, refl, subst}
use Rattle.dumpi_calls.specs.Whole.{SegmentsTellAll}
use Rattle.dumpi_calls.specs.declared.collect.Memory.{Memory as NoMemory}
use Rattle.dumpi_calls.specs.declared.fault.WalkCause.TheVariants as walks
use Rattle.dumpi_calls.specs.declared.fault.WalkFault.{WalkFault}
use Rattle.dumpi_text.specs.declared.fault.TextCause.{TextCause}
use Rattle.dumpi_text.specs.declared.fault.TextCause.TheVariants as reads
use Rattle.dumpi_text.specs.declared.fault.TextFault.TheVariants.{At}
use Rattle.mpi_model.specs.Layouts.{Parts}
use Rattle.trace_know.specs.Trace.{view_of}
use Rattle.trace_node.specs.declared.fault.NodeFault.TheVariants as nodes
use Rattle.trace_cluster.specs.declared.exchange.fault.ExchangeFault.{ExchangeFault}
use Rattle.trace_cluster.specs.declared.exchange.fault.ExchangeFault.TheVariants as exchanges
use Rattle.trace_wire.specs.declared.fault.WireFault.{WireFault}
use Rattle.trace_wire.specs.declared.fault.WireFault.TheVariants as wires
use Rattle.trace_crew.specs.declared.piece.TextPiece.{TextPiece}
use Rattle.trace_crew.specs.declared.piece.PieceAt.{PieceAt}
use Rattle.trace_crew.specs.declared.piece.PieceFault.{PieceFault}
use Rattle.trace_crew.specs.declared.piece.PieceFault.TheVariants as causes
use Rattle.trace_crew.specs.Pieces.{IsOwn, IsRefusedFor}
use Rattle.trace_cluster.specs.declared.side.Side.{Side}
use Rattle.trace_cluster.specs.declared.fault.ClusterFault.{ClusterFault}
use Rattle.trace_cluster.specs.declared.fault.ClusterFault.TheVariants as clusters
use Rattle.trace_cluster.specs.Pieces.{Placed, all_pieces, placed}
use Rattle.trace_cluster.specs.Stopped.{IsFirstFault, IsStopped}
use Rattle.run_files.specs.Manifests.{PieceParts}
use Rattle.command_runs.specs.Clusters.{AreSound, IsFaultFor, IsTextFault, NamesOne, RefusesCrews, by_node, of_exchange, of_wire, piece_at}
use Rattle.run_inputs.specs.Files.{IsFile, StandsAtFirst}
use Rattle.command_runs.specs.Pieces.{FailsAt, PassesPlaces, RefusesPiece}
use Rattle.command_runs.specs.Refusals.{RefusesFirst}
use Rattle.command_runs.specs.NodeTexts.{AreShares, IsTextOf}
use Rattle.run_inputs.specs.declared.faults.fault.RunFault.{RunFault}
use Rattle.run_inputs.specs.declared.faults.fault.RunFault.TheVariants.{Memory, File, Json, Shape, PackedFrame, Layout, Text, Missing, Wrong, Place, Rank, Outside, NodeCount, Step, Worker, Net, Frame, Write}
use Rattle.run_inputs.specs.declared.faults.fault.RunFault.TheVariants as faults
use Rattle.command_runs.specs.declared.pieces.node_texts.AllTexts.{AllTexts}
use Rattle.command_runs.proofs.GivenFacts.{events_told}
use Rattle.command_runs.proofs.ByPlace.{AreAt, Stands, all_at, sound, stands_in, stranger, traced}
use Rattle.command_runs.proofs.Told.{stop_told}

bytes_told : (file : Option (List ℕ)) (bytes : List ℕ) → IsFile file bytes → StandsAtFirst file (Some bytes)
bytes_told None bytes is = tt
bytes_told (Some told) bytes is = ap (λ (t : List ℕ). Some t) (sym is)

-- The reader of a text at hand doesn't fail.
own_told : (file : Option (List ℕ)) (fault : WalkFault NoMemory) → IsOwn fault.cause → (cause : TextCause) (line : ℕ) → fault.cause ≡ walks.Text (At line cause)
    → FailsAt cause file fault.line
own_told file fault own (reads.Line broken) line is = tt
own_told file fault own reads.Read line is = absurd (subst (IsOwn {F = NoMemory}) is own)

text_refused : (file : List ℕ → Option (List ℕ)) (piece : PieceParts) (text : TextPiece) (fault : PieceFault) (run : RunFault) → IsTextOf file piece text
    → IsRefusedFor text fault → IsTextFault piece.file fault run → RefusesPiece piece.file piece.first (file piece.file) run
text_refused file piece text (causes.Walk fault) run is why names =
    stop_told piece.file piece.first (file piece.file) (Some text.text.items) [] why.0 fault run (bytes_told (file piece.file) text.text.items is.2) why.1
    (own_told (file piece.file) fault why.2) names
text_refused file piece text (causes.Segment fault) (Place path) is why names =
    (names, subst (λ (first : ℕ). PassesPlaces first (file piece.file)) is.1 (why.1.0, events_told (file piece.file) text.text.items why.1.0 is.2 why.1.1, why.1.2))
text_refused file piece text (causes.Segment fault) Memory is why names = absurd names
text_refused file piece text (causes.Segment fault) (File path) is why names = absurd names
text_refused file piece text (causes.Segment fault) (Json path at along) is why names = absurd names
text_refused file piece text (causes.Segment fault) (Shape path field) is why names = absurd names
text_refused file piece text (causes.Segment fault) (faults.Piece path) is why names = absurd names
text_refused file piece text (causes.Segment fault) (faults.Packed path) is why names = absurd names
text_refused file piece text (causes.Segment fault) (PackedFrame cause path frame) is why names = absurd names
text_refused file piece text (causes.Segment fault) (Layout broken path) is why names = absurd names
text_refused file piece text (causes.Segment fault) (Text cause path line) is why names = absurd names
text_refused file piece text (causes.Segment fault) (Missing parameter path line) is why names = absurd names
text_refused file piece text (causes.Segment fault) (Wrong parameter path line) is why names = absurd names
text_refused file piece text (causes.Segment fault) (Rank path) is why names = absurd names
text_refused file piece text (causes.Segment fault) Outside is why names = absurd names
text_refused file piece text (causes.Segment fault) NodeCount is why names = absurd names
text_refused file piece text (causes.Segment fault) (Step broken step) is why names = absurd names
text_refused file piece text (causes.Segment fault) Worker is why names = absurd names
text_refused file piece text (causes.Segment fault) Net is why names = absurd names
text_refused file piece text (causes.Segment fault) (Frame broken) is why names = absurd names
text_refused file piece text (causes.Segment fault) Write is why names = absurd names
text_refused file piece text causes.Memory run is why names = subst (λ (r : RunFault). RefusesPiece piece.file piece.first (file piece.file) r) (sym names) tt

same_piece : (found : Option PieceParts) (one other : PieceParts) → found ≡ Some one → found ≡ Some other → one ≡ other
same_piece found one other e f = cc (e, f)

-- where the piece of the first fault stands
pub stands_first : (file : List ℕ → Option (List ℕ)) (pieces : List PieceParts) (texts : AllTexts) (node : Side) (at : PieceAt) (fault : PieceFault) → AreShares file pieces texts
    → (first : IsFirstFault (all_pieces texts.first texts.second) node at fault)
    → Stands file pieces first.before (placed node at first.piece) (by_node pieces)
stands_first file pieces texts node at fault are first =
    stands_in file pieces first.before (placed node at first.piece) first.after (by_node pieces)
    (subst (λ (all : List Placed). AreAt file pieces all (by_node pieces)) first.all_are (all_at file pieces texts are))

-- A piece is the first that is refused, and the fault of the run names it.
pub first_refused : SegmentsTellAll → (file : List ℕ → Option (List ℕ)) (pieces : List PieceParts) (texts : AllTexts) (node : Side) (at : PieceAt) (fault : PieceFault) (run : RunFault)
    → AreShares file pieces texts → IsFirstFault (all_pieces texts.first texts.second) node at fault
    → (piece : PieceParts) × (piece_at pieces node at ≡ Some piece) × IsTextFault piece.file fault run
    → RefusesFirst file (by_node pieces) run
first_refused tells file pieces texts node at fault run are first named =
    let stands = stands_first file pieces texts node at fault are first in
    let same : named.0 ≡ stands.piece = same_piece _ named.0 stands.piece named.1 stands.is_at.1 in
    let names : IsTextFault stands.piece.file fault run = subst (λ (p : PieceParts). IsTextFault p.file fault run) same named.2 in
    let trace = traced tells file pieces first.before stands.front stands.front_at first.whole in (
      stands.front,
      stands.piece,
      (stands.back, stands.cut),
      (view_of trace.0, (trace.0, trace.1, refl)),
      text_refused file stands.piece first.piece fault run stands.is_at.0 first.why names,
    )

-- ---- all that stops a cluster

wire_refused : (file : List ℕ → Option (List ℕ)) (ranks : ℕ) (pieces : List PieceParts) (fault : WireFault) → AreSound file ranks pieces
    → RefusesCrews file ranks pieces (of_wire fault)
wire_refused file ranks pieces wires.Memory is = tt
wire_refused file ranks pieces wires.Read is = is
wire_refused file ranks pieces wires.Write is = is
wire_refused file ranks pieces wires.Magic is = is
wire_refused file ranks pieces wires.Version is = is
wire_refused file ranks pieces wires.Length is = is
wire_refused file ranks pieces wires.Short is = is
wire_refused file ranks pieces wires.Order is = is
wire_refused file ranks pieces wires.Content is = is
wire_refused file ranks pieces wires.Rest is = is

exchange_refused : (file : List ℕ → Option (List ℕ)) (ranks : ℕ) (pieces : List PieceParts) (fault : ExchangeFault) → AreSound file ranks pieces
    → RefusesCrews file ranks pieces (of_exchange fault)
exchange_refused file ranks pieces (exchanges.Write fault) is = wire_refused file ranks pieces fault is
exchange_refused file ranks pieces (exchanges.Read fault) is = wire_refused file ranks pieces fault is
exchange_refused file ranks pieces (exchanges.Merge nodes.Rank) is = inr is
exchange_refused file ranks pieces (exchanges.Merge nodes.Memory) is = tt
exchange_refused file ranks pieces (exchanges.Merge nodes.Stale) is = tt

-- what a text is refused for is refused of the crews
crews_refused : (file : List ℕ → Option (List ℕ)) (ranks : ℕ) (pieces : List PieceParts) (name : List ℕ) (fault : PieceFault) (run : RunFault)
    → IsTextFault name fault run → RefusesFirst file pieces run → RefusesCrews file ranks pieces run
crews_refused file ranks pieces name fault Memory names h = tt
crews_refused file ranks pieces name fault (Text cause path line) names h = h
crews_refused file ranks pieces name fault (Missing parameter path line) names h = h
crews_refused file ranks pieces name fault (Wrong parameter path line) names h = h
crews_refused file ranks pieces name fault (Place path) names h = h
crews_refused file ranks pieces name (causes.Walk fault) (File path) names h = absurd names
crews_refused file ranks pieces name (causes.Segment fault) (File path) names h = absurd names
crews_refused file ranks pieces name causes.Memory (File path) names h = absurd (cc names)
crews_refused file ranks pieces name fault (Json path at along) names h = absurd h.4
crews_refused file ranks pieces name fault (Shape path field) names h = absurd h.4
crews_refused file ranks pieces name fault (faults.Piece path) names h = absurd h.4
crews_refused file ranks pieces name fault (faults.Packed path) names h = absurd h.4
crews_refused file ranks pieces name fault (PackedFrame cause path frame) names h = absurd h.4
crews_refused file ranks pieces name fault (Layout broken path) names h = absurd h.4
crews_refused file ranks pieces name fault (Rank path) names h = absurd h.4
crews_refused file ranks pieces name fault Outside names h = absurd h.4
crews_refused file ranks pieces name fault NodeCount names h = absurd h.4
crews_refused file ranks pieces name fault (Step broken step) names h = absurd h.4
crews_refused file ranks pieces name fault Worker names h = absurd h.4
crews_refused file ranks pieces name fault Net names h = absurd h.4
crews_refused file ranks pieces name fault (Frame broken) names h = absurd h.4
crews_refused file ranks pieces name fault Write names h = absurd h.4

-- What stops a cluster refuses its crews.
pub stopped : SegmentsTellAll → (file : List ℕ → Option (List ℕ)) (layout : Parts) (pieces : List PieceParts) (texts : AllTexts) (fault : ClusterFault) (run : RunFault)
    → AreShares file pieces texts → IsStopped layout (all_pieces texts.first texts.second) fault → IsFaultFor pieces fault run
    → RefusesCrews file layout.ranks (by_node pieces) run
stopped tells file layout pieces texts clusters.Memory run are stops is = subst (RefusesCrews file layout.ranks (by_node pieces)) (sym is) tt
stopped tells file layout pieces texts clusters.Worker run are stops is = subst (RefusesCrews file layout.ranks (by_node pieces)) (sym is) tt
stopped tells file layout pieces texts clusters.Net run are stops is =
    subst (RefusesCrews file layout.ranks (by_node pieces)) (sym is) (sound tells file layout pieces texts are stops)
stopped tells file layout pieces texts (clusters.Piece node at fault) run are stops is =
    crews_refused file layout.ranks (by_node pieces) is.0.file fault run is.2 (first_refused tells file pieces texts node at fault run are stops is)
stopped tells file layout pieces texts (clusters.Node nodes.Rank) run are stops is =
    subst (RefusesCrews file layout.ranks (by_node pieces)) (sym is) (inl (stranger tells file layout pieces texts are stops.0 stops.1))
stopped tells file layout pieces texts (clusters.Node nodes.Memory) run are stops is = subst (RefusesCrews file layout.ranks (by_node pieces)) (sym is) tt
stopped tells file layout pieces texts (clusters.Node nodes.Stale) run are stops is = absurd stops.1
stopped tells file layout pieces texts (clusters.Lead fault) run are stops is =
    subst (RefusesCrews file layout.ranks (by_node pieces)) (sym is) (exchange_refused file layout.ranks (by_node pieces) fault (sound tells file layout pieces texts are stops))
stopped tells file layout pieces texts (clusters.Follow fault) run are stops is =
    subst (RefusesCrews file layout.ranks (by_node pieces)) (sym is) (exchange_refused file layout.ranks (by_node pieces) fault (sound tells file layout pieces texts are stops))

-- A fault of a piece names one of the manifest.
pub named_one : (file : List ℕ → Option (List ℕ)) (layout : Parts) (pieces : List PieceParts) (texts : AllTexts) (fault : ClusterFault)
    → AreShares file pieces texts → IsStopped layout (all_pieces texts.first texts.second) fault → NamesOne pieces fault
named_one file layout pieces texts clusters.Memory are stops = tt
named_one file layout pieces texts clusters.Worker are stops = tt
named_one file layout pieces texts clusters.Net are stops = tt
named_one file layout pieces texts (clusters.Piece node at fault) are stops =
    let stands = stands_first file pieces texts node at fault are stops in
    (stands.piece, stands.is_at.1)
named_one file layout pieces texts (clusters.Node fault) are stops = tt
named_one file layout pieces texts (clusters.Lead fault) are stops = tt
named_one file layout pieces texts (clusters.Follow fault) are stops = tt
