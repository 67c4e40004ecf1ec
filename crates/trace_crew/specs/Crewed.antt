-- What a crew leaves.
use Rattle.std.specs.Prelude.{◌≡◌, List, ◌++◌, map, All}
use Rattle.std.specs.List.{filter, flat_map}
use Rattle.crossbeam_channel.specs.Claims.{Pass, view}
use Rattle.mpi_model.specs.Layouts.{Parts}
use Rattle.trace_know.specs.Segment.{PlacedEvents}
use Rattle.trace_know.specs.Trace.{view_of}
use Rattle.trace_node.specs.Node.{Held}
use Rattle.trace_crew.specs.declared.queue.item.WorkerPost.{WorkerPost}
use Rattle.trace_crew.specs.declared.queue.item.Worker.{Worker}
use Rattle.trace_crew.specs.declared.queue.item.Worker.TheVariants.{First, Second}
use Rattle.trace_crew.specs.declared.queue.rule.WorkerStanding.TheVariants.{Running}
use Rattle.trace_crew.specs.declared.queue.rule.SeatView.{SeatView}
use Rattle.trace_crew.specs.declared.queue.rule.SeatView.TheVariants.{Owner}
use Rattle.trace_crew.specs.Views.{desk, is_from, posts_of}
use Rattle.trace_crew.specs.declared.threads.CrewOut.{CrewOut}
use Rattle.trace_crew.specs.declared.threads.Left.{Left}
use Rattle.trace_crew.specs.declared.threads.Ran.{Ran}
use Rattle.trace_crew.specs.declared.worker.Worked.{Worked}
use Rattle.trace_crew.specs.declared.piece.TextPiece.{TextPiece}
use Rattle.trace_crew.specs.declared.piece.FaultyPiece.{FaultyPiece}
use Rattle.trace_crew.specs.declared.owner.Refusal.{Refusal}
use Rattle.trace_crew.specs.Pieces.{Gave}
use Rattle.trace_crew.specs.Taking.{HasAll, IsFair, IsNew, Keeping, Sorted, Taken, ends_in, joined_in, refused_in}
use Rattle.trace_crew.specs.Work.{Leaves}

-- the segments of one worker among those that were taken, in their order
abbrev pub segments_by : Worker → List Taken → List PlacedEvents
segments_by w taken = map (λ t. t.segment) (filter (λ t. is_from w t.from) taken)

-- What a crew leaves of the pieces of its two workers. There is an order of taking, a list of segments, of which: those
-- of each worker are just those of its texts, whole, each as often as given, and in its order, but for the texts with a
-- fault, which are listed with it, and each text with a fault is; the segments that were refused are listed, in their
-- order: as of a rank that isn't the layout's just where that is so, else for want of memory; and the node, which is
-- the layout's, knows the facts of the others and nothing else.
pub record IsCrewOut (layout : Parts) (first second : List TextPiece) (out : CrewOut) : Type 0 where
  pub taken : List Taken
  pub first_faults : List FaultyPiece
  pub second_faults : List FaultyPiece
  pub first_gave : Gave First first (segments_by First taken) first_faults
  pub second_gave : Gave Second second (segments_by Second taken) second_faults
  pub faults : out.faults.items ≡ first_faults ++ second_faults
  pub fair : All (IsFair layout) taken
  pub refused : out.refused.items ≡ flat_map refused_in taken
  pub layout_is : out.node.layout ≡ layout
  pub know : out.node.know ≡ view_of (flat_map joined_in taken)

-- The owner has taken all that both workers posted: the segments of their texts, but for the texts with a fault, which
-- are listed.
pub record HasGathered (layout : Parts) (first second : List TextPiece) (node : Held) (refused : List Refusal) (faults : List FaultyPiece) : Type 0 where
  pub ones : List PlacedEvents
  pub others : List PlacedEvents
  pub first_faults : List FaultyPiece
  pub second_faults : List FaultyPiece
  pub first_gave : Gave First first ones first_faults
  pub second_gave : Gave Second second others second_faults
  pub faults_are : faults ≡ first_faults ++ second_faults
  pub all : HasAll layout (posts_of First ones) (posts_of Second others) node refused

-- The workers have left, and the owner has taken some of what they posted, with two ends among it.
pub record HasRun (layout : Parts) (first second : List TextPiece) (owner : SeatView) (node : Held) (refused : List Refusal) (one other : Worked) : Type 0 where
  pub taken : List WorkerPost
  pub owner_is : owner ≡ Owner (desk taken Running Running)
  pub sorted : Sorted layout taken node refused
  pub two : ends_in taken ≡ 2
  pub one_worked : Leaves First first one
  pub other_worked : Leaves Second second other

-- ---- from a new node on

-- Where the node was new, the owner has taken all that both workers posted.
abbrev pub Gathers : List TextPiece → List TextPiece → Keeping → Keeping → List FaultyPiece → Type 0
Gathers first second old new faults = (layout : Parts) → IsNew layout old → HasGathered layout first second new.node new.refused faults

-- Where the node was new, the workers have left, and the owner has taken two ends.
abbrev pub Runs : List TextPiece → List TextPiece → Keeping → Pass WorkerPost SeatView → Keeping → Worked → Worked → Type 0
Runs first second old seat new one other = (layout : Parts) → IsNew layout old → HasRun layout first second (view seat) new.node new.refused one other

-- The same of what the threads leave, by what the owner keeps in its hall.
abbrev pub RunsBoth : {H : Type 0} → (H → Keeping) → List TextPiece → List TextPiece → H → Ran H → Type 0
RunsBoth kept first second hall ran = Runs first second (kept hall) ran.seat (kept ran.hall) ran.first ran.second

-- Where the node in the hall was new, all that both workers posted was taken, and their faults are listed.
abbrev pub GathersAll : {H : Type 0} → (H → Keeping) → List TextPiece → List TextPiece → H → Left H → Type 0
GathersAll kept first second hall left = Gathers first second (kept hall) (kept left.hall) left.faults.items

-- of some layout and some texts the workers have left, and the owner has taken two ends
abbrev pub HasRunSome : Pass WorkerPost SeatView → Keeping → Worked → Worked → Type 0
HasRunSome seat kept one other = (layout : Parts) × (first : List TextPiece) × (second : List TextPiece) × HasRun layout first second (view seat) kept.node kept.refused one other

-- Whatever the layout and the texts were of which this is left, the owner has now taken all that both workers posted.
abbrev pub Finishes : Pass WorkerPost SeatView → Keeping → Worked → Worked → Keeping → List FaultyPiece → Type 0
Finishes seat old one other new faults = (layout : Parts) (first second : List TextPiece) → HasRun layout first second (view seat) old.node old.refused one other → HasGathered layout first second new.node new.refused faults

-- The same of what the threads have left, by what the owner keeps in its hall.
abbrev pub FinishesAll : {H : Type 0} → (H → Keeping) → Ran H → Left H → Type 0
FinishesAll kept ran left = Finishes ran.seat (kept ran.hall) ran.first ran.second (kept left.hall) left.faults.items
