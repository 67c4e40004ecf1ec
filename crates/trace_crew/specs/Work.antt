-- What a worker has read and posted.
use Rattle.std.specs.Prelude.{◌≡◌, ℕ, Bool, true, false, Option, Some, None, List, [], ◌∷◌, ◌++◌, map, ◌⊎◌}
use Rattle.crossbeam_channel.specs.Claims.{view}
use Rattle.trace_know.specs.Segment.{PlacedEvents}
use Rattle.trace_crew.specs.declared.queue.item.WorkerPost.{WorkerPost}
use Rattle.trace_crew.specs.declared.queue.item.Worker.{Worker}
use Rattle.trace_crew.specs.declared.queue.rule.SeatView.{SeatView}
use Rattle.trace_crew.specs.declared.queue.rule.SeatView.TheVariants.{Owner, Poster, Spent}
use Rattle.trace_crew.specs.Views.{IsPoster, end_item, posts_of, segment_item}
use Rattle.trace_crew.specs.Taking.{ends_in}
use Rattle.trace_crew.specs.declared.piece.TextPiece.{TextPiece}
use Rattle.trace_crew.specs.declared.piece.FaultyPiece.{FaultyPiece}
use Rattle.trace_crew.specs.declared.worker.Hand.{Hand}
use Rattle.trace_crew.specs.declared.worker.Worked.{Worked}
use Rattle.trace_crew.specs.declared.worker.Stop.{Stop}
use Rattle.trace_crew.specs.declared.worker.Stop.TheVariants.{Memory, Closed}
use Rattle.trace_crew.specs.Pieces.{Gave, IsOutcome, Outcome, faults_in, segments_in}

-- a worker's seat after it has posted some items more
abbrev pub after_posts : SeatView → List WorkerPost → SeatView
after_posts (Poster w posted) items = Poster w (posted ++ items)
after_posts (Owner d) items = Owner d
after_posts Spent items = Spent

-- a worker's seat has posted these segments, in their order
abbrev pub PostsAll : Worker → List PlacedEvents → SeatView → SeatView → Type 0
PostsAll w segments old new = new ≡ after_posts old (map (segment_item w) segments)

-- One text more was read: its segments were posted, or its fault was noted.
pub record ReadsOne (w : Worker) (place : ℕ) (piece : TextPiece) (old : SeatView) (faults : List FaultyPiece) (new : SeatView) (more : List FaultyPiece) : Type 0 where
  pub outcome : Outcome
  pub is : IsOutcome piece outcome
  pub posted : PostsAll w (segments_in outcome) old new
  pub noted : more ≡ faults ++ faults_in w place outcome

-- a worker has read the text at this place
abbrev pub ReadsNext : ℕ → TextPiece → Hand → Hand → Type 0
ReadsNext place piece old new = ReadsOne old.worker place piece (view old.seat) old.faults.items (view new.seat) new.faults.items

-- These texts were read, and what they gave was posted and noted.
pub record HasRead (w : Worker) (pieces : List TextPiece) (seat : SeatView) (faults : List FaultyPiece) : Type 0 where
  pub segments : List PlacedEvents
  pub posted : seat ≡ Poster w (map (segment_item w) segments)
  pub gave : Gave w pieces segments faults

-- All texts were read, what they gave was posted and noted, and then that the worker posts no more.
pub record HasEnded (w : Worker) (pieces : List TextPiece) (seat : SeatView) (faults : List FaultyPiece) : Type 0 where
  pub segments : List PlacedEvents
  pub posted : seat ≡ Poster w (posts_of w segments)
  pub gave : Gave w pieces segments faults

-- the owner has left
abbrev pub is_closed : Option Stop → Bool
is_closed None = false
is_closed (Some Memory) = false
is_closed (Some Closed) = true

-- how many of the items that a worker has posted say that it posts no more
abbrev pub ends_posted : SeatView → ℕ
ends_posted (Poster w posted) = ends_in posted
ends_posted (Owner d) = 0
ends_posted Spent = 0

-- how many of them a worker has posted that stopped so: none where the owner had left, and else one
abbrev pub ends_at : Option Stop → ℕ
ends_at None = 1
ends_at (Some Memory) = 1
ends_at (Some Closed) = 0

-- A worker that stopped for this has posted that it posts no more; or it found that the owner had left.
abbrev pub Ends : Worker → Option Stop → SeatView → Option Stop → SeatView → Type 0
Ends w stop old result new = ((result ≡ stop) × (new ≡ after_posts old (end_item w ∷ []))) ⊎ ((result ≡ Some Closed) × (new ≡ old))

-- What a worker leaves: at its seat it said once that it posts no more, unless the owner had left; and where nothing
-- stopped it, all its texts were read.
pub record HasWorked (w : Worker) (pieces : List TextPiece) (seat : SeatView) (faults : List FaultyPiece) (stop : Option Stop) : Type 0 where
  pub poster : IsPoster w seat
  pub ends : ends_posted seat ≡ ends_at stop
  pub whole : stop ≡ None → HasEnded w pieces seat faults

-- what is left by a worker of these pieces
abbrev pub Leaves : Worker → List TextPiece → Worked → Type 0
Leaves w pieces left = HasWorked w pieces (view left.seat) left.faults.items left.stop
