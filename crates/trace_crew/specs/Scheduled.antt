-- A crew as a schedule of one node.
use Rattle.std.specs.Prelude.{◌≡◌, ◌<◌, ◌≤◌, Option, Some, None, List, [], ◌∷◌, ◌++◌, if◌then◌else◌, nat_lt, ⊤}
use Rattle.std.specs.List.{flat_map}
use Rattle.mpi_model.specs.Layouts.{Parts}
use Rattle.trace_know.specs.Segment.{PlacedEvents}
use Rattle.trace_know.specs.Trace.{facts_of}
use Rattle.trace_node.specs.Schedule.{NodeState, node_state, with_post, with_take}
use Rattle.trace_node.specs.declared.fault.NodeFault.{NodeFault}
use Rattle.trace_node.specs.declared.fault.NodeFault.TheVariants.{Rank, Memory}
use Rattle.trace_crew.specs.declared.queue.item.WorkerPost.{WorkerPost}
use Rattle.trace_crew.specs.declared.queue.item.Post.{Post}
use Rattle.trace_crew.specs.declared.queue.item.Post.TheVariants.{Segment, End}
use Rattle.trace_crew.specs.Taking.{Taken, joined_in, taken_as}

-- ---- schedules of one node

-- a step: a segment is posted, or the node takes the oldest
pub data Move : Type 0 where
  Posts : (segment : PlacedEvents) → Move
  Takes : Move

-- the node of a schedule after one move
abbrev pub after : Move → NodeState → NodeState
after (Posts segment) s = with_post segment s
after Takes s = with_take s

-- the node of a schedule after all of these
abbrev pub after_all : List Move → NodeState → NodeState
after_all [] s = s
after_all (move ∷ moves) s = after_all moves (after move s)

-- a segment waits in the inbox
abbrev pub HasFront : List PlacedEvents → Type 0
HasFront inbox = (front : PlacedEvents) × (rest : List PlacedEvents) × (inbox ≡ front ∷ rest)

-- Each take of these moves finds a segment.
abbrev pub CanMove : List Move → NodeState → Type 0
CanMove [] s = ⊤
CanMove (Posts segment ∷ moves) s = CanMove moves (with_post segment s)
CanMove (Takes ∷ moves) s = HasFront s.inbox × CanMove moves (with_take s)

-- The moves lead from a node that nothing has happened to into this state.
pub record LeadsTo (moves : List Move) (s : NodeState) : Type 0 where
  pub can : CanMove moves (node_state [] [])
  pub is : after_all moves (node_state [] []) ≡ s

-- the same moves without a post of this segment
pub record Without (segment : PlacedEvents) (moves others : List Move) : Type 0 where
  pub before : List Move
  pub rest : List Move
  pub moves_are : moves ≡ before ++ Posts segment ∷ rest
  pub others_are : others ≡ before ++ rest

-- ---- crews

-- the segment of a post, where its rank is the layout's
abbrev pub waiting_in : Parts → Post → List PlacedEvents
waiting_in layout (Segment segment) = if nat_lt segment.rank layout.ranks then segment ∷ [] else []
waiting_in layout End = []

-- what reached the node: nothing where the segment was refused
abbrev pub reached_for : PlacedEvents → Option NodeFault → List PlacedEvents
reached_for segment None = segment ∷ []
reached_for segment (Some fault) = []

-- The state for which a crew stands: what waits is the segments in the queue whose rank is the layout's, and what
-- reached the node is the segments that were taken and joined.
abbrev pub state_of : Parts → List WorkerPost → List Taken → NodeState
state_of layout queue taken = node_state (flat_map (λ item. waiting_in layout item.post) queue) (flat_map (λ t. reached_for t.segment t.fault) taken)

-- What the steps of a crew are to the schedule, whatever waits and was taken before.
pub record FollowsSchedule (layout : Parts) (queue : List WorkerPost) (taken : List Taken) : Type 0 where
  -- the send of a segment whose rank is the layout's is a post, and its receive with the join that follows a take
  pub sends : (item : WorkerPost) (segment : PlacedEvents) → item.post ≡ Segment segment → segment.rank < layout.ranks → state_of layout (queue ++ item ∷ []) taken ≡ with_post segment (state_of layout queue taken)
  pub receives : (item : WorkerPost) (segment : PlacedEvents) → item.post ≡ Segment segment → segment.rank < layout.ranks
      → state_of layout queue (taken ++ taken_as item.from segment None ∷ []) ≡ with_take (state_of layout (item ∷ queue) taken)
  -- the send and the receive of an end or of another segment are no step
  pub sends_end : (item : WorkerPost) → item.post ≡ End → state_of layout (queue ++ item ∷ []) taken ≡ state_of layout queue taken
  pub receives_end : (item : WorkerPost) → item.post ≡ End → state_of layout queue taken ≡ state_of layout (item ∷ queue) taken
  pub sends_other : (item : WorkerPost) (segment : PlacedEvents) → item.post ≡ Segment segment → layout.ranks ≤ segment.rank → state_of layout (queue ++ item ∷ []) taken ≡ state_of layout queue taken
  pub receives_other : (item : WorkerPost) (segment : PlacedEvents) → item.post ≡ Segment segment → layout.ranks ≤ segment.rank
      → state_of layout queue (taken ++ taken_as item.from segment (Some Rank) ∷ []) ≡ state_of layout (item ∷ queue) taken
  -- a receive whose join is refused for want of memory leaves the state of the same schedule without this post
  pub refuses : (item : WorkerPost) (segment : PlacedEvents) (moves : List Move) → item.post ≡ Segment segment → segment.rank < layout.ranks → LeadsTo moves (state_of layout (item ∷ queue) taken)
      → (others : List Move) × Without segment moves others × LeadsTo others (state_of layout queue (taken ++ taken_as item.from segment (Some Memory) ∷ []))
  -- and the node, which knows just what was joined, knows just what reached it
  pub knows : flat_map joined_in taken ≡ flat_map facts_of (state_of layout queue taken).reached
