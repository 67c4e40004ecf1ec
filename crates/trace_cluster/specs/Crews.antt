-- What stops a cluster among what two crews leave.
use Rattle.std.specs.Prelude.{◌≡◌, ◌<◌, ◌≤◌, ℕ, Result, Ok, Err, List, [], ◌∷◌, ◌++◌, ◌⊎◌, ⊤}
use Rattle.trace_know.specs.View.{View}
use Rattle.trace_node.specs.declared.fault.NodeFault.{NodeFault}
use Rattle.trace_wire.specs.declared.fault.WireFault.TheVariants as wire
use Rattle.trace_cluster.specs.declared.exchange.fault.ExchangeFault.TheVariants.{Merge, Read, Write}
use Rattle.trace_cluster.specs.declared.exchange.fault.ExchangeFault.{ExchangeFault}
use Rattle.trace_crew.specs.declared.piece.FaultyPiece.{FaultyPiece}
use Rattle.trace_crew.specs.declared.threads.CrewFault.{CrewFault}
use Rattle.trace_crew.specs.declared.threads.CrewFault.TheVariants as crews
use Rattle.trace_crew.specs.declared.threads.CrewOut.{CrewOut}
use Rattle.trace_crew.specs.declared.owner.Refusal.{Refusal}
use Rattle.trace_cluster.specs.declared.fault.ClusterFault.{ClusterFault}
use Rattle.trace_cluster.specs.declared.side.Side.{Side}
use Rattle.trace_cluster.specs.declared.side.Side.TheVariants as sides
use Rattle.trace_cluster.specs.declared.fault.ClusterFault.TheVariants.{Worker, Memory, Piece, Node, Net, Lead, Follow}

-- the fault of a crew as one of the cluster
abbrev pub of_crew : CrewFault → ClusterFault
of_crew crews.Worker = Worker
of_crew crews.Memory = Memory

-- It is the first of a node's faulty pieces.
abbrev pub IsFirstPiece : Side → List FaultyPiece → ClusterFault → Type 0
IsFirstPiece node faults fault = (first : FaultyPiece) × (rest : List FaultyPiece) × (faults ≡ first ∷ rest) × (fault ≡ Piece node first.at first.fault)

-- It is why the first of these segments was refused.
abbrev pub IsFirstRefusal : List Refusal → ClusterFault → Type 0
IsFirstRefusal refused fault = (first : Refusal) × (rest : List Refusal) × (refused ≡ first ∷ rest) × (fault ≡ Node first.fault)

-- Of the faulty pieces and the refused segments of two nodes it is the first that stops a cluster: a piece by node,
-- worker and place, and where all pieces are whole a refused segment by node and in the order of taking.
abbrev pub Stops : List FaultyPiece → List FaultyPiece → List Refusal → List Refusal → ClusterFault → Type 0
Stops faults others refused later fault = IsFirstPiece sides.First faults fault
    ⊎ ((faults ≡ []) × IsFirstPiece sides.Second others fault)
    ⊎ (((faults ≡ []) × (others ≡ [])) × IsFirstRefusal (refused ++ later) fault)

-- There are none of them.
abbrev pub IsClean : List FaultyPiece → List FaultyPiece → List Refusal → List Refusal → Type 0
IsClean faults others refused later = ((faults ≡ []) × (others ≡ [])) × (refused ≡ []) × (later ≡ [])

-- no piece of two crews has a fault
abbrev pub AreFaultless : CrewOut → CrewOut → Type 0
AreFaultless one other = (one.faults.items ≡ []) × (other.faults.items ≡ [])

-- It is what first stops a cluster of what two crews leave.
abbrev pub StopsAt : CrewOut → CrewOut → ClusterFault → Type 0
StopsAt one other fault = Stops one.faults.items other.faults.items one.refused.items other.refused.items fault

-- Nothing of it stops the cluster.
abbrev pub AreClean : CrewOut → CrewOut → Type 0
AreClean one other = IsClean one.faults.items other.faults.items one.refused.items other.refused.items

-- It is why the first node did not join what its side of an exchange heard.
abbrev pub IsLeadersMerge : ClusterFault → Type 0
IsLeadersMerge fault = (cause : NodeFault) × (fault ≡ Lead (Merge cause))

-- It is why the follower's side of an exchange was refused.
abbrev pub IsFollowers : Result (Unit {0}) ExchangeFault → ClusterFault → Type 0
IsFollowers followed fault = (cause : ExchangeFault) × (followed ≡ Err cause) × (fault ≡ Follow cause)

-- How surely a side of an exchange was refused for a cause of its own: not where its frame ends short, since only the
-- other side closes the connection early, and less where the device failed, which it can for that.
abbrev pub sureness_of : ExchangeFault → ℕ
sureness_of (Read wire.Short) = 0
sureness_of (Read wire.Read) = 1
sureness_of (Write wire.Write) = 1
sureness_of fault = 2

-- Of a leader that was refused for this and of its follower it is why the one was that stopped the other: the more
-- surely one's own cause, and where neither is the leader's.
abbrev pub IsOwnCause : ExchangeFault → Result (Unit {0}) ExchangeFault → ClusterFault → Type 0
IsOwnCause led (Ok done) fault = fault ≡ Lead led
IsOwnCause led (Err cause) fault = ((sureness_of led < sureness_of cause) × (fault ≡ Follow cause)) ⊎ ((sureness_of cause ≤ sureness_of led) × (fault ≡ Lead led))

-- It is why a side of an exchange was refused where the leader's was; or, where that was not, why the first node did
-- not join what that heard, or why the follower's side was refused.
abbrev pub IsFirstEnd : Result View ExchangeFault → Result (Unit {0}) ExchangeFault → ClusterFault → Type 0
IsFirstEnd (Err led) followed fault = IsOwnCause led followed fault
IsFirstEnd (Ok known) followed fault = IsLeadersMerge fault ⊎ IsFollowers followed fault

-- It comes of the exchange, and not of a crew.
abbrev pub IsOfMeeting : ClusterFault → Type 0
IsOfMeeting Net = ⊤
IsOfMeeting (Lead fault) = ⊤
IsOfMeeting (Follow fault) = ⊤
IsOfMeeting fault = ⊥
