-- What the owner of a node makes of the items that it takes.
use Rattle.std.specs.Prelude.{◌≡◌, ℕ, ◌+◌, ◌<◌, ◌≤◌, Bool, true, false, Option, Some, None, List, [], ◌∷◌, ◌++◌, map, All}
use Rattle.std.specs.List.{filter_map, flat_map}
use Rattle.mpi_model.specs.Layouts.{Parts}
use Rattle.trace_know.specs.Segment.{PlacedEvents}
use Rattle.trace_know.specs.Trace.{Trace, facts_of, view_of}
use Rattle.trace_know.specs.View.{View, join}
use Rattle.trace_node.specs.Node.{Held}
use Rattle.trace_node.specs.declared.fault.NodeFault.{NodeFault}
use Rattle.trace_node.specs.declared.fault.NodeFault.TheVariants.{Rank, Memory, Stale}
use Rattle.trace_crew.specs.declared.queue.item.WorkerPost.{WorkerPost}
use Rattle.trace_crew.specs.declared.queue.item.Post.{Post}
use Rattle.trace_crew.specs.declared.queue.item.Post.TheVariants.{Segment, End}
use Rattle.trace_crew.specs.declared.queue.item.Worker.{Worker}
use Rattle.trace_crew.specs.declared.queue.item.Worker.TheVariants.{First, Second}
use Rattle.trace_crew.specs.declared.hold.RefusedSegment.{RefusedSegment}
use Rattle.trace_crew.specs.declared.owner.Hall.{Hall}
use Rattle.trace_crew.specs.declared.owner.Refusal.{Refusal}
use Rattle.trace_crew.specs.declared.queue.rule.WorkerStanding.TheVariants.{Joined, Running}
use Rattle.trace_crew.specs.declared.queue.rule.SeatView.{SeatView}
use Rattle.trace_crew.specs.declared.queue.rule.SeatView.TheVariants.{Owner}
use Rattle.trace_crew.specs.Views.{desk, of}

-- ---- one segment

-- a segment that the owner took: whose it is, and why it was not joined, where it was not
pub record Taken : Type 0 where
  pub from : Worker
  pub segment : PlacedEvents
  pub fault : Option NodeFault

-- a segment with its worker, and why it wasn't joined
abbrev pub taken_as : Worker → PlacedEvents → Option NodeFault → Taken
taken_as from segment fault = record { from = from; segment = segment; fault = fault }

-- A segment is refused where its rank is not the layout's, and else for want of memory alone.
abbrev pub IsFairFor : Parts → ℕ → Option NodeFault → Type 0
IsFairFor layout rank None = rank < layout.ranks
IsFairFor layout rank (Some Rank) = layout.ranks ≤ rank
IsFairFor layout rank (Some Memory) = rank < layout.ranks
IsFairFor layout rank (Some Stale) = ⊥

-- a segment is refused only for a rank that the layout lacks, or for memory
abbrev pub IsFair : Parts → Taken → Type 0
IsFair layout t = IsFairFor layout t.segment.rank t.fault

-- why a segment was given back, where one was
abbrev pub fault_in : Option RefusedSegment → Option NodeFault
fault_in None = None
fault_in (Some refused) = Some refused.fault

-- a segment that was not joined, with its worker and its fault
abbrev pub refused_as : Worker → PlacedEvents → NodeFault → Refusal
refused_as from segment fault = record { from = from; segment = segment; fault = fault }

-- how a segment is listed, where it was refused
abbrev pub refused_for : Worker → PlacedEvents → Option NodeFault → List Refusal
refused_for from segment None = []
refused_for from segment (Some fault) = refused_as from segment fault ∷ []

-- how it is listed, where it was refused
abbrev pub refused_in : Taken → List Refusal
refused_in t = refused_for t.from t.segment t.fault

-- the facts that were joined: none where the segment was refused
abbrev pub joined_for : PlacedEvents → Option NodeFault → Trace
joined_for segment None = facts_of segment
joined_for segment (Some fault) = []

-- its facts, where it was joined
abbrev pub joined_in : Taken → Trace
joined_in t = joined_for t.segment t.fault

-- what is known after it
abbrev pub known_after : View → PlacedEvents → Option NodeFault → View
known_after know segment None = join know (view_of (facts_of segment))
known_after know segment (Some fault) = know

-- One segment more was joined, or listed with its fault.
pub record Handles (from : Worker) (segment : PlacedEvents) (old : Held) (refused : List Refusal) (new : Held) (refusals : List Refusal) : Type 0 where
  pub fault : Option NodeFault
  pub fair : IsFairFor old.layout segment.rank fault
  pub listed : refusals ≡ refused ++ refused_for from segment fault
  pub layout : new.layout ≡ old.layout
  pub know : new.know ≡ known_after old.know segment fault

-- The node is the same layout's, and knows the same. It may have its answer now.
pub record IsKept (old new : Held) : Type 0 where
  pub layout : new.layout ≡ old.layout
  pub know : new.know ≡ old.know

-- ---- all segments

-- the segment of an item, with its worker
abbrev pub sent_by : Worker → Post → Option (Worker × PlacedEvents)
sent_by from (Segment segment) = Some (from, segment)
sent_by from End = None

-- the segment that an item carries, with its worker: none where it is an end
abbrev pub sent : WorkerPost → Option (Worker × PlacedEvents)
sent item = sent_by item.from item.post

-- the segment that was taken, with its worker
abbrev pub source : Taken → Worker × PlacedEvents
source t = (t.from, t.segment)

-- These are the segments of the items, in their order: the refused ones are listed, in that order, each for its cause,
-- and the node, which is the layout's, knows just the facts of the others.
pub record Sorts (layout : Parts) (items : List WorkerPost) (segments : List Taken) (node : Held) (refused : List Refusal) : Type 0 where
  pub all : map source segments ≡ filter_map sent items
  pub fair : All (IsFair layout) segments
  pub listed : refused ≡ flat_map refused_in segments
  pub layout_is : node.layout ≡ layout
  pub know : node.know ≡ view_of (flat_map joined_in segments)

-- the items were taken in some order, which left this node and these refusals
abbrev pub Sorted : Parts → List WorkerPost → Held → List Refusal → Type 0
Sorted layout items node refused = (segments : List Taken) × Sorts layout items segments node refused

-- What an owner keeps: what its node holds, and the segments that it refused.
pub record Keeping : Type 0 where
  pub node : Held
  pub refused : List Refusal

-- what the owner keeps in a hall
abbrev pub kept_in : Hall → Keeping
kept_in hall = record { node = hall.node; refused = hall.refused.items }

-- what is kept is what was made of these items
abbrev pub IsOfItems : Parts → List WorkerPost → Keeping → Type 0
IsOfItems layout items kept = Sorted layout items kept.node kept.refused

-- nothing was taken yet
abbrev pub IsNew : Parts → Keeping → Type 0
IsNew layout kept = IsOfItems layout [] kept

-- What was made of some items is, with this one more, what is made of them and it.
abbrev pub TakesIn : WorkerPost → Keeping → Keeping → Type 0
TakesIn item old new = (layout : Parts) (taken : List WorkerPost) → IsOfItems layout taken old → IsOfItems layout (taken ++ item ∷ []) new

-- The owner took all that the two workers posted, in an order of its own.
pub record HasAll (layout : Parts) (first second : List WorkerPost) (node : Held) (refused : List Refusal) : Type 0 where
  pub items : List WorkerPost
  pub first_all : of First items ≡ first
  pub second_all : of Second items ≡ second
  pub sorted : Sorted layout items node refused

-- ---- ends

-- the worker posts no more
abbrev pub is_end_post : Post → Bool
is_end_post (Segment segment) = false
is_end_post End = true

-- the item ends its worker's posts
abbrev pub is_end : WorkerPost → Bool
is_end item = is_end_post item.post

-- 1 for one end, and 0 for none
abbrev pub counted : Bool → ℕ
counted true = 1
counted false = 0

-- how many of the items end a worker's posts
abbrev pub ends_in : List WorkerPost → ℕ
ends_in [] = 0
ends_in (item ∷ items) = counted (is_end item) + ends_in items

-- of how many workers an item ends the posts, of which is told which segment it was, where it was one
abbrev pub ends_told : Option (Worker × ℕ) → ℕ
ends_told None = 1
ends_told (Some segment) = 0

-- ---- both workers

-- The owner has taken two ends among its items, both workers run still, and what is kept is what was made of the items.
abbrev pub HasBothEnds : Parts → SeatView → Keeping → Type 0
HasBothEnds layout owner kept = (taken : List WorkerPost) × (owner ≡ Owner (desk taken Running Running)) × (ends_in taken ≡ 2) × IsOfItems layout taken kept

-- Where the node was new, the owner has taken two ends among its items, and keeps what was made of them.
abbrev pub TakesBothEnds : SeatView → Keeping → Keeping → Type 0
TakesBothEnds owner old new = (layout : Parts) → IsNew layout old → HasBothEnds layout owner new

-- the owner has taken these items, and has joined both workers, which posted these
abbrev pub IsJoined : SeatView → List WorkerPost → List WorkerPost → List WorkerPost → Type 0
IsJoined owner taken first second = owner ≡ Owner (desk taken (Joined first) (Joined second))

-- the owner has joined both workers
abbrev pub HasJoined : SeatView → Type 0
HasJoined owner = (taken : List WorkerPost) × (first : List WorkerPost) × (second : List WorkerPost) × IsJoined owner taken first second

-- Of an owner that had joined both workers, and kept what it had made of its items: it has taken all that they posted.
abbrev pub TakesTheRest : SeatView → Keeping → Keeping → Type 0
TakesTheRest owner old new = (layout : Parts) (taken first second : List WorkerPost) → IsJoined owner taken first second → IsOfItems layout taken old → HasAll layout first second new.node new.refused

-- The items that the owner had taken have no more ends than both workers posted.
abbrev pub HasTheirEnds : SeatView → Type 0
HasTheirEnds owner = (taken first second : List WorkerPost) → IsJoined owner taken first second → ends_in taken ≤ ends_in first + ends_in second
