-- What stops a cluster among what its crews leave, as of its pieces.
use Rattle.std.proofs.Common.{◌≡◌, ◌≤◌, ◌<◌, List, [], ◌∷◌, ◌++◌, refl, sym, ap, ◌∙◌, subst, ⊎_elim, inl, inr}
use Rattle.std.specs.Prelude.{◌⊎◌}
use Rattle.std.specs.List.{All, Contains}
use Rattle.std.proofs.lemmas.List.Elements.{All-append, All-from_recursion, All-weaker, Contains-append_left, Contains-append_right, recursion_from_All}
use Rattle.mpi_model.specs.Layouts.{Parts}
use Rattle.trace_know.specs.Segment.{PlacedEvents}
use Rattle.trace_node.specs.declared.fault.NodeFault.{NodeFault}
use Rattle.trace_node.specs.declared.fault.NodeFault.TheVariants as nodes
use Rattle.trace_crew.specs.declared.queue.item.Worker.{Worker}
use Rattle.trace_crew.specs.declared.queue.item.Worker.TheVariants.{First, Second}
use Rattle.trace_crew.specs.declared.piece.FaultyPiece.{FaultyPiece}
use Rattle.trace_crew.specs.declared.threads.CrewOut.{CrewOut}
use Rattle.trace_crew.specs.declared.owner.Refusal.{Refusal}
use Rattle.trace_crew.specs.Crewed.{IsCrewOut, segments_by}
use Rattle.trace_crew.specs.Taking.{IsFair}
use Rattle.trace_cluster.specs.declared.fault.ClusterFault.{ClusterFault}
use Rattle.trace_cluster.specs.declared.fault.ClusterFault.TheVariants.{Memory, Piece, Node, Net, Lead, Follow}
use Rattle.trace_cluster.specs.declared.fault.ClusterFault.TheVariants as causes
use Rattle.trace_cluster.specs.declared.side.Side.{Side}
use Rattle.trace_cluster.specs.declared.side.Side.TheVariants as sides
use Rattle.trace_cluster.specs.declared.workload.Workload.{Workload}
use Rattle.trace_cluster.specs.Crews.{AreClean, AreFaultless, IsFirstPiece, IsFirstRefusal, IsOfMeeting, Stops, StopsAt}
use Rattle.trace_cluster.specs.Pieces.{IsForeign, IsWhole, IsWithin, Placed, all_pieces, pieces_of}
use Rattle.trace_cluster.specs.Stopped.{IsFirstFault, IsRefusal, IsStopped}
use Rattle.trace_cluster.proofs.Finding.{AreWhole, Faults, Found, IsOfPiece, ahead, behind, first_of_node, node_found, node_whole, of_first, of_second}
use Rattle.trace_cluster.proofs.Lists.{nil_first, nil_rest, same_first}
use Rattle.trace_cluster.proofs.Taking.{IsRefusedAmong, all_in_ranks, by_worker, first_refused}

-- ---- of one node

-- what a crew leaves of a node's pieces
abbrev Left : Parts → Workload → CrewOut → Type 0
Left layout load out = IsCrewOut layout load.first.items load.second.items out

whole : (layout : Parts) (node : Side) (load : Workload) (out : CrewOut) → Left layout load out → out.faults.items ≡ [] → AreWhole (pieces_of node load)
whole layout node load out is none =
    let e : is.first_faults ++ is.second_faults ≡ [] = sym is.faults ∙ none in
    node_whole node load (segments_by First is.taken) (segments_by Second is.taken) is.first_faults is.second_faults is.first_gave is.second_gave
    (nil_first is.first_faults is.second_faults e) (nil_rest is.first_faults is.second_faults e)

first_fault : (layout : Parts) (node : Side) (load : Workload) (out : CrewOut) (f : FaultyPiece) (rest : Faults) → Left layout load out → out.faults.items ≡ f ∷ rest
    → IsFirstFault (pieces_of node load) node f.at f.fault
first_fault layout node load out f rest is e =
    first_of_node node load (segments_by First is.taken) (segments_by Second is.taken) is.first_faults is.second_faults f rest is.first_gave is.second_gave (sym is.faults ∙ e)

-- all segments of a node's pieces are of the layout's ranks
abbrev AreWithin : Parts → List Placed → Type 0
AreWithin layout all = All (λ (q : Placed). IsWithin layout q.piece) all

within : (layout : Parts) (node : Side) (load : Workload) (out : CrewOut) → Left layout load out → out.faults.items ≡ [] → out.refused.items ≡ [] → AreWithin layout (pieces_of node load)
within layout node load out is none joined =
    let e : is.first_faults ++ is.second_faults ≡ [] = sym is.faults ∙ none in
    let P : PlacedEvents → Type 0 = λ s. s.rank < layout.ranks in
    let ranks = all_in_ranks layout is.taken (recursion_from_All (IsFair layout) is.taken is.fair) (sym is.refused ∙ joined) in
    All-weaker (λ (q : Placed). Found P q.piece) (λ (q : Placed). IsWithin layout q.piece) (λ q h. (h.0, h.1, All-from_recursion P h.0 h.2)) (pieces_of node load)
    (node_found P node load (segments_by First is.taken) (segments_by Second is.taken) is.first_faults is.second_faults is.first_gave is.second_gave
    (nil_first is.first_faults is.second_faults e) (nil_rest is.first_faults is.second_faults e) (by_worker P First is.taken ranks) (by_worker P Second is.taken ranks))

-- one of these pieces gave a segment of a rank that the layout lacks
abbrev HasForeign : Parts → List Placed → Type 0
HasForeign layout all = (one : Placed) × Contains all one × IsForeign layout one.piece

is_foreign : (layout : Parts) (all : List Placed) (s : PlacedEvents) → layout.ranks ≤ s.rank → IsOfPiece all s → HasForeign layout all
is_foreign layout all s far h = (h.0, h.1, (h.2.0, s, h.2.1, h.2.2, far))

foreign_by : (layout : Parts) (node : Side) (load : Workload) (out : CrewOut) (is : Left layout load out) (w : Worker) (s : PlacedEvents) → Contains (segments_by w is.taken) s → layout.ranks ≤ s.rank
    → HasForeign layout (pieces_of node load)
foreign_by layout node load out is First s h far = is_foreign layout (pieces_of node load) s far (of_first node load (segments_by First is.taken) is.first_faults s is.first_gave h)
foreign_by layout node load out is Second s h far = is_foreign layout (pieces_of node load) s far (of_second node load (segments_by Second is.taken) is.second_faults s is.second_gave h)

refusal_by : (layout : Parts) (node : Side) (load : Workload) (out : CrewOut) → (is : Left layout load out) → (fault : NodeFault) → IsRefusedAmong layout is.taken fault → IsRefusal layout (pieces_of node load) fault
refusal_by layout node load out is nodes.Rank h = foreign_by layout node load out is h.0 h.1 h.2 h.3
refusal_by layout node load out is nodes.Memory h = tt
refusal_by layout node load out is nodes.Stale h = h.3

first_refusal : (layout : Parts) (node : Side) (load : Workload) (out : CrewOut) (r : Refusal) (rest : List Refusal) → Left layout load out → out.refused.items ≡ r ∷ rest → IsRefusal layout (pieces_of node load) r.fault
first_refusal layout node load out r rest is e =
    refusal_by layout node load out is r.fault (first_refused layout is.taken r rest (recursion_from_All (IsFair layout) is.taken is.fair) (sym is.refused ∙ e))

-- ---- of both nodes

refusal_left : (layout : Parts) (xs ys : List Placed) (fault : NodeFault) → IsRefusal layout xs fault → IsRefusal layout (xs ++ ys) fault
refusal_left layout xs ys nodes.Rank h = (h.0, Contains-append_left xs ys h.0 h.1, h.2)
refusal_left layout xs ys nodes.Memory h = tt
refusal_left layout xs ys nodes.Stale h = h

refusal_right : (layout : Parts) (xs ys : List Placed) (fault : NodeFault) → IsRefusal layout ys fault → IsRefusal layout (xs ++ ys) fault
refusal_right layout xs ys nodes.Rank h = (h.0, Contains-append_right xs ys h.0 h.1, h.2)
refusal_right layout xs ys nodes.Memory h = tt
refusal_right layout xs ys nodes.Stale h = h

-- the first refused segment is of the one crew, or of the other where the one refused none
refusal_of : (layout : Parts) (first second : Workload) (one other : CrewOut) (ones others : List Refusal) (r : Refusal) (rest : List Refusal) → Left layout first one → Left layout second other
    → one.refused.items ≡ ones → other.refused.items ≡ others → ones ++ others ≡ r ∷ rest → IsRefusal layout (all_pieces first second) r.fault
refusal_of layout first second one other [] others r rest is is' e e' at =
    refusal_right layout (pieces_of sides.First first) (pieces_of sides.Second second) r.fault (first_refusal layout sides.Second second other r rest is' (e' ∙ at))
refusal_of layout first second one other (q ∷ qs) others r rest is is' e e' at =
    refusal_left layout (pieces_of sides.First first) (pieces_of sides.Second second) r.fault
    (subst (λ (x : Refusal). IsRefusal layout (pieces_of sides.First first) x.fault) (same_first q r (qs ++ others) rest at) (first_refusal layout sides.First first one q qs is e))

all_whole : (layout : Parts) (first second : Workload) (one other : CrewOut) → Left layout first one → Left layout second other → one.faults.items ≡ [] → other.faults.items ≡ [] → AreWhole (all_pieces first second)
all_whole layout first second one other is is' none none' =
    All-append (λ (q : Placed). IsWhole q.piece) (pieces_of sides.First first) (pieces_of sides.Second second) (whole layout sides.First first one is none) (whole layout sides.Second second other is' none')

-- What stops a cluster after both crews.
pub stopped : (layout : Parts) (first second : Workload) (one other : CrewOut) (fault : ClusterFault) → IsCrewOut layout first.first.items first.second.items one
    → IsCrewOut layout second.first.items second.second.items other → StopsAt one other fault → IsStopped layout (all_pieces first second) fault
stopped layout first second one other fault is is' stops =
    let all = all_pieces first second in
    let P : ClusterFault → Type 0 = λ f. IsStopped layout all f in
    ⊎_elim
    (λ (h : IsFirstPiece sides.First one.faults.items fault).
    subst P (sym h.3) (ahead (pieces_of sides.First first) (pieces_of sides.Second second) sides.First h.0.at h.0.fault (first_fault layout sides.First first one h.0 h.1 is h.2)))
    (λ (later : ((one.faults.items ≡ []) × IsFirstPiece sides.Second other.faults.items fault) ⊎ (AreFaultless one other × IsFirstRefusal (one.refused.items ++ other.refused.items) fault)).
    ⊎_elim
    (λ (h : (one.faults.items ≡ []) × IsFirstPiece sides.Second other.faults.items fault).
    let f = h.1 in
    subst P (sym f.3) (behind (pieces_of sides.First first) (pieces_of sides.Second second) sides.Second f.0.at f.0.fault (whole layout sides.First first one is h.0) (first_fault layout sides.Second second other f.0 f.1 is' f.2)))
    (λ (h : AreFaultless one other × IsFirstRefusal (one.refused.items ++ other.refused.items) fault).
    let f = h.1 in
    subst P (sym f.3) (
      all_whole layout first second one other is is' h.0.0 h.0.1,
      refusal_of layout first second one other one.refused.items other.refused.items f.0 f.1 is is' refl refl f.2,
    ))
    later)
    stops

unmet_for : (layout : Parts) (all : List Placed) (fault : ClusterFault) → AreWithin layout all → IsOfMeeting fault → IsStopped layout all fault
unmet_for layout all causes.Worker h of = tt
unmet_for layout all Memory h of = tt
unmet_for layout all (Piece node at fault) h of = absurd of
unmet_for layout all (Node fault) h of = absurd of
unmet_for layout all Net h of = h
unmet_for layout all (Lead fault) h of = h
unmet_for layout all (Follow fault) h of = h

-- What stops it where the crews left nothing that does.
pub unmet : (layout : Parts) (first second : Workload) (one other : CrewOut) (fault : ClusterFault) → IsCrewOut layout first.first.items first.second.items one
    → IsCrewOut layout second.first.items second.second.items other → AreClean one other → IsOfMeeting fault → IsStopped layout (all_pieces first second) fault
unmet layout first second one other fault is is' clean of =
    unmet_for layout (all_pieces first second) fault
    (All-append (λ (q : Placed). IsWithin layout q.piece) (pieces_of sides.First first) (pieces_of sides.Second second)
    (within layout sides.First first one is clean.0.0 clean.1) (within layout sides.Second second other is' clean.0.1 clean.2))
    of

-- What stops it where a node has no memory for what it is told besides.
pub untold : (layout : Parts) (first second : Workload) (one other : CrewOut) (fault : ClusterFault) → IsCrewOut layout first.first.items first.second.items one
    → IsCrewOut layout second.first.items second.second.items other → AreClean one other → fault ≡ Node nodes.Memory → IsStopped layout (all_pieces first second) fault
untold layout first second one other fault is is' clean e =
    subst (λ (f : ClusterFault). IsStopped layout (all_pieces first second) f) (sym e) (all_whole layout first second one other is is' clean.0.0 clean.0.1, tt)

-- ---- the first of what both crews leave

pub stops_first : (faults others : Faults) (refused later : List Refusal) (fault : ClusterFault) → IsFirstPiece sides.First faults fault → Stops faults others refused later fault
stops_first faults others refused later fault h = inl h

pub stops_second : (faults others : Faults) (refused later : List Refusal) (fault : ClusterFault) → faults ≡ [] → IsFirstPiece sides.Second others fault → Stops faults others refused later fault
stops_second faults others refused later fault none h = inr (inl (none, h))

pub stops_refused : (faults others : Faults) (refused later : List Refusal) (fault : ClusterFault) → faults ≡ [] → others ≡ [] → IsFirstRefusal refused fault → Stops faults others refused later fault
stops_refused faults others refused later fault none none' h =
    inr (inr ((none, none'), (h.0, h.1 ++ later, ap (λ (l : List Refusal). l ++ later) h.2, h.3)))

pub stops_refused_later : (faults others : Faults) (refused later : List Refusal) (fault : ClusterFault) → faults ≡ [] → others ≡ [] → refused ≡ [] → IsFirstRefusal later fault → Stops faults others refused later fault
stops_refused_later faults others refused later fault none none' joined h =
    inr (inr ((none, none'), (h.0, h.1, ap (λ (l : List Refusal). l ++ later) joined ∙ h.2, h.3)))
