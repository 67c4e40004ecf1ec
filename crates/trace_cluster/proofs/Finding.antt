-- What each piece of a worker gave.
use Rattle.std.proofs.Common.{◌≡◌, ℕ, ◌+◌, Ok, Err, List, [], ◌∷◌, ◌++◌, refl, sym, ap, ◌∙◌, subst, append_assoc, ⊎_elim}
use Rattle.std.specs.List.{All, AllByRecursion, Contains, flat_map}
use Rattle.std.proofs.lemmas.List.Elements.{All-append, All-nil, All-cons, All-weaker, Contains-append_cases, Contains-append_left, Contains-append_right}
use Rattle.trace_know.specs.Segment.{PlacedEvents}
use Rattle.trace_crew.specs.declared.queue.item.Worker.{Worker}
use Rattle.trace_crew.specs.declared.queue.item.Worker.TheVariants.{First, Second}
use Rattle.trace_crew.specs.declared.piece.TextPiece.{TextPiece}
use Rattle.trace_crew.specs.declared.piece.FaultyPiece.{FaultyPiece}
use Rattle.trace_crew.specs.declared.piece.PieceAt.{PieceAt}
use Rattle.trace_crew.specs.declared.piece.PieceFault.{PieceFault}
use Rattle.trace_crew.specs.Pieces.{AreOutcomes, Gave, GivesSegments, Outcome, faults_from, faulty, place_of, segments_in}
use Rattle.trace_cluster.specs.declared.side.Side.{Side}
use Rattle.trace_cluster.specs.declared.workload.Workload.{Workload}
use Rattle.trace_cluster.specs.Pieces.{IsWhole, Placed, pieces_of, placed, placed_from}
use Rattle.trace_cluster.specs.Stopped.{IsFirstFault}
use Rattle.trace_cluster.proofs.Lists.{back, contains_first, contains_none, front, no_element, same_first}

-- the faults of pieces with their workers and places
abbrev pub Faults : Type 0
Faults = List FaultyPiece

-- ---- pieces without a fault

-- the segments of a piece were found, and this holds of each
abbrev pub Found : (PlacedEvents → Type 0) → TextPiece → Type 0
Found P piece = (segments : List PlacedEvents) × GivesSegments piece segments × AllByRecursion P segments

each_found : (P : PlacedEvents → Type 0) (worker : Worker) (place : ℕ) (pieces : List TextPiece) (outcomes : List Outcome) → AreOutcomes pieces outcomes → faults_from worker place outcomes ≡ []
    → AllByRecursion P (flat_map segments_in outcomes) → AllByRecursion (Found P) pieces
each_found P worker place [] outcomes are none h = tt
each_found P worker place (p ∷ ps) [] are none h = absurd are
each_found P worker place (p ∷ ps) (Ok s ∷ os) are none h =
    ((s, are.0, front P s (flat_map segments_in os) h), each_found P worker (place + 1) ps os are.1 none (back P s (flat_map segments_in os) h))
each_found P worker place (p ∷ ps) (Err f ∷ os) are none h = absurd (no_element (faulty worker place f) (faults_from worker (place + 1) os) none)

-- Where no piece has a fault, the segments of each were found.
pub all_found : (P : PlacedEvents → Type 0) (worker : Worker) (pieces : List TextPiece) (segments : List PlacedEvents) (faults : Faults) → Gave worker pieces segments faults → faults ≡ [] → AllByRecursion P segments
    → AllByRecursion (Found P) pieces
all_found P worker pieces segments faults gave none h =
    each_found P worker 0 pieces gave.outcomes gave.are (sym gave.faults_are ∙ none) (subst (λ (l : List PlacedEvents). AllByRecursion P l) gave.segments_are h)

all_placed : (P : TextPiece → Type 0) (node : Side) (worker : Worker) (place : ℕ) (pieces : List TextPiece) → AllByRecursion P pieces → All (λ (q : Placed). P q.piece) (placed_from node worker place pieces)
all_placed P node worker place [] h = All-nil (λ (q : Placed). P q.piece)
all_placed P node worker place (p ∷ ps) h =
    All-cons (λ (q : Placed). P q.piece) (placed node (place_of worker place) p) (placed_from node worker (place + 1) ps) h.0 (all_placed P node worker (place + 1) ps h.1)

-- The same of both workers of a node.
pub node_found : (P : PlacedEvents → Type 0) (node : Side) (load : Workload) (ones others : List PlacedEvents) (faults faults' : Faults)
    → Gave First load.first.items ones faults → Gave Second load.second.items others faults' → faults ≡ [] → faults' ≡ [] → AllByRecursion P ones → AllByRecursion P others
    → All (λ (q : Placed). Found P q.piece) (pieces_of node load)
node_found P node load ones others faults faults' gave gave' none none' h h' =
    All-append (λ (q : Placed). Found P q.piece) (placed_from node First 0 load.first.items) (placed_from node Second 0 load.second.items)
    (all_placed (Found P) node First 0 load.first.items (all_found P First load.first.items ones faults gave none h))
    (all_placed (Found P) node Second 0 load.second.items (all_found P Second load.second.items others faults' gave' none' h'))

abbrev Anything : PlacedEvents → Type 0
Anything s = Unit {0}

all_are_something : (segments : List PlacedEvents) → AllByRecursion Anything segments
all_are_something [] = tt
all_are_something (s ∷ ss) = (tt, all_are_something ss)

abbrev pub AreWhole : List Placed → Type 0
AreWhole all = All (λ (q : Placed). IsWhole q.piece) all

worker_whole : (node : Side) (worker : Worker) (pieces : List TextPiece) (segments : List PlacedEvents) (faults : Faults) → Gave worker pieces segments faults → faults ≡ [] → AreWhole (placed_from node worker 0 pieces)
worker_whole node worker pieces segments faults gave none =
    All-weaker (λ (q : Placed). Found Anything q.piece) (λ (q : Placed). IsWhole q.piece) (λ q h. (h.0, h.1)) (placed_from node worker 0 pieces)
    (all_placed (Found Anything) node worker 0 pieces (all_found Anything worker pieces segments faults gave none (all_are_something segments)))

pub node_whole : (node : Side) (load : Workload) (ones others : List PlacedEvents) (faults faults' : Faults) → Gave First load.first.items ones faults → Gave Second load.second.items others faults'
    → faults ≡ [] → faults' ≡ [] → AreWhole (pieces_of node load)
node_whole node load ones others faults faults' gave gave' none none' =
    All-append (λ (q : Placed). IsWhole q.piece) (placed_from node First 0 load.first.items) (placed_from node Second 0 load.second.items)
    (worker_whole node First load.first.items ones faults gave none) (worker_whole node Second load.second.items others faults' gave' none')

-- ---- the first fault

-- pieces that are whole before those with a fault
pub behind : (whole all : List Placed) (node : Side) (at : PieceAt) (fault : PieceFault) → AreWhole whole → IsFirstFault all node at fault → IsFirstFault (whole ++ all) node at fault
behind whole all node at fault h f =
    record {
      before = whole ++ f.before;
      piece = f.piece;
      after = f.after;
      all_are = ap (λ (l : List Placed). whole ++ l) f.all_are ∙ sym (append_assoc whole f.before (placed node at f.piece ∷ f.after));
      whole = All-append (λ (q : Placed). IsWhole q.piece) whole f.before h f.whole;
      why = f.why;
    }

-- other pieces after those with a fault
pub ahead : (all more : List Placed) (node : Side) (at : PieceAt) (fault : PieceFault) → IsFirstFault all node at fault → IsFirstFault (all ++ more) node at fault
ahead all more node at fault f =
    record {
      before = f.before;
      piece = f.piece;
      after = f.after ++ more;
      all_are = ap (λ (l : List Placed). l ++ more) f.all_are ∙ append_assoc f.before (placed node at f.piece ∷ f.after) more;
      whole = f.whole;
      why = f.why;
    }

first_from : (node : Side) (worker : Worker) (place : ℕ) (pieces : List TextPiece) (outcomes : List Outcome) (f : FaultyPiece) (rest : Faults) → AreOutcomes pieces outcomes → faults_from worker place outcomes ≡ f ∷ rest
    → IsFirstFault (placed_from node worker place pieces) node f.at f.fault
first_from node worker place [] [] f rest are e = absurd (no_element f rest (sym e))
first_from node worker place [] (o ∷ os) f rest are e = absurd are
first_from node worker place (p ∷ ps) [] f rest are e = absurd are
first_from node worker place (p ∷ ps) (Ok s ∷ os) f rest are e =
    behind (placed node (place_of worker place) p ∷ []) (placed_from node worker (place + 1) ps) node f.at f.fault
    (All-cons (λ (q : Placed). IsWhole q.piece) (placed node (place_of worker place) p) [] (s, are.0) (All-nil (λ (q : Placed). IsWhole q.piece)))
    (first_from node worker (place + 1) ps os f rest are.1 e)
first_from node worker place (p ∷ ps) (Err g ∷ os) f rest are e =
    subst (λ (q : FaultyPiece). IsFirstFault (placed_from node worker place (p ∷ ps)) node q.at q.fault) (same_first (faulty worker place g) f (faults_from worker (place + 1) os) rest e)
    (record {
      before = [];
      piece = p;
      after = placed_from node worker (place + 1) ps;
      all_are = refl;
      whole = All-nil (λ (q : Placed). IsWhole q.piece);
      why = are.0;
    })

first_of_worker : (node : Side) (worker : Worker) (pieces : List TextPiece) (segments : List PlacedEvents) (faults : Faults) (f : FaultyPiece) (rest : Faults) → Gave worker pieces segments faults → faults ≡ f ∷ rest
    → IsFirstFault (placed_from node worker 0 pieces) node f.at f.fault
first_of_worker node worker pieces segments faults f rest gave e = first_from node worker 0 pieces gave.outcomes f rest gave.are (sym gave.faults_are ∙ e)

-- The first fault of a node's pieces is that of the first piece that is not whole.
pub first_of_node : (node : Side) (load : Workload) (ones others : List PlacedEvents) (faults faults' : Faults) (f : FaultyPiece) (rest : Faults)
    → Gave First load.first.items ones faults → Gave Second load.second.items others faults' → faults ++ faults' ≡ f ∷ rest → IsFirstFault (pieces_of node load) node f.at f.fault
first_of_node node load ones others [] faults' f rest gave gave' e =
    behind (placed_from node First 0 load.first.items) (placed_from node Second 0 load.second.items) node f.at f.fault
    (worker_whole node First load.first.items ones [] gave refl) (first_of_worker node Second load.second.items others faults' f rest gave' e)
first_of_node node load ones others (g ∷ gs) faults' f rest gave gave' e =
    ahead (placed_from node First 0 load.first.items) (placed_from node Second 0 load.second.items) node f.at f.fault
    (subst (λ (q : FaultyPiece). IsFirstFault (placed_from node First 0 load.first.items) node q.at q.fault) (same_first g f (gs ++ faults') rest e)
    (first_of_worker node First load.first.items ones (g ∷ gs) g gs gave refl))

-- ---- the piece of a segment

-- the piece gave this segment among others
abbrev pub IsGivenBy : TextPiece → PlacedEvents → Type 0
IsGivenBy piece s = (segments : List PlacedEvents) × GivesSegments piece segments × Contains segments s

-- a piece of these did
abbrev pub IsOfPiece : List Placed → PlacedEvents → Type 0
IsOfPiece all s = (one : Placed) × Contains all one × IsGivenBy one.piece s

of_piece_from : (node : Side) (worker : Worker) (place : ℕ) (pieces : List TextPiece) (outcomes : List Outcome) (s : PlacedEvents) → AreOutcomes pieces outcomes → Contains (flat_map segments_in outcomes) s
    → IsOfPiece (placed_from node worker place pieces) s
of_piece_from node worker place [] [] s are h = absurd (contains_none s h)
of_piece_from node worker place [] (o ∷ os) s are h = absurd are
of_piece_from node worker place (p ∷ ps) [] s are h = absurd are
of_piece_from node worker place (p ∷ ps) (Err f ∷ os) s are h =
    let r = of_piece_from node worker (place + 1) ps os s are.1 h in
    (r.0, Contains-append_right (placed node (place_of worker place) p ∷ []) (placed_from node worker (place + 1) ps) r.0 r.1, r.2)
of_piece_from node worker place (p ∷ ps) (Ok g ∷ os) s are h =
    ⊎_elim (λ (x : Contains g s). (placed node (place_of worker place) p, contains_first (placed node (place_of worker place) p) (placed_from node worker (place + 1) ps), (g, are.0, x)))
    (λ (x : Contains (flat_map segments_in os) s).
    let r = of_piece_from node worker (place + 1) ps os s are.1 x in
    (r.0, Contains-append_right (placed node (place_of worker place) p ∷ []) (placed_from node worker (place + 1) ps) r.0 r.1, r.2))
    (Contains-append_cases g (flat_map segments_in os) s h)

of_worker : (node : Side) (worker : Worker) (pieces : List TextPiece) (segments : List PlacedEvents) (faults : Faults) (s : PlacedEvents) → Gave worker pieces segments faults → Contains segments s
    → IsOfPiece (placed_from node worker 0 pieces) s
of_worker node worker pieces segments faults s gave h = of_piece_from node worker 0 pieces gave.outcomes s gave.are (subst (λ (l : List PlacedEvents). Contains l s) gave.segments_are h)

pub of_first : (node : Side) (load : Workload) (segments : List PlacedEvents) (faults : Faults) (s : PlacedEvents) → Gave First load.first.items segments faults → Contains segments s → IsOfPiece (pieces_of node load) s
of_first node load segments faults s gave h =
    let r = of_worker node First load.first.items segments faults s gave h in
    (r.0, Contains-append_left (placed_from node First 0 load.first.items) (placed_from node Second 0 load.second.items) r.0 r.1, r.2)

pub of_second : (node : Side) (load : Workload) (segments : List PlacedEvents) (faults : Faults) (s : PlacedEvents) → Gave Second load.second.items segments faults → Contains segments s → IsOfPiece (pieces_of node load) s
of_second node load segments faults s gave h =
    let r = of_worker node Second load.second.items segments faults s gave h in
    (r.0, Contains-append_right (placed_from node First 0 load.first.items) (placed_from node Second 0 load.second.items) r.0 r.1, r.2)
