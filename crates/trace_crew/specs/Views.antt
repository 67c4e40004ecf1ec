-- What seats at a queue know, and how each step changes it.
use Rattle.std.specs.Prelude.{◌≡◌, Bool, true, false, List, [], ◌∷◌, ◌++◌, map}
use Rattle.std.specs.List.{filter}
use Rattle.atomic_table.specs.declared.badge.Badge.{Badge}
use Rattle.crossbeam_channel.specs.Claims.{IsSeatAt, Pass}
use Rattle.crossbeam_channel.specs.declared.flavors.array.Doing.{Doing}
use Rattle.crossbeam_channel.specs.declared.flavors.array.Key.{Key}
use Rattle.crossbeam_channel.specs.declared.flavors.array.Rows.{Rows}
use Rattle.trace_know.specs.Segment.{PlacedEvents}
use Rattle.trace_crew.specs.declared.queue.item.Worker.{Worker}
use Rattle.trace_crew.specs.declared.queue.item.Worker.TheVariants.{First, Second}
use Rattle.trace_crew.specs.declared.queue.item.Post.TheVariants.{Segment, End}
use Rattle.trace_crew.specs.declared.queue.item.WorkerPost.{WorkerPost}
use Rattle.trace_crew.specs.declared.queue.rule.WorkerStanding.{WorkerStanding}
use Rattle.trace_crew.specs.declared.queue.rule.WorkerStanding.TheVariants.{Unmade, Running, Joined}
use Rattle.trace_crew.specs.declared.queue.rule.Desk.{Desk}
use Rattle.trace_crew.specs.declared.queue.rule.SeatView.{SeatView}
use Rattle.trace_crew.specs.declared.queue.rule.SeatView.TheVariants.{Owner, Poster, Spent}

-- ---- items

-- whether the two are one worker
abbrev pub is_from : Worker → Worker → Bool
is_from First First = true
is_from First Second = false
is_from Second First = false
is_from Second Second = true

-- the items of one worker, in their order
abbrev pub of : Worker → List WorkerPost → List WorkerPost
of w items = filter (λ i. is_from w i.from) items

-- an item that is a segment
abbrev pub segment_item : Worker → PlacedEvents → WorkerPost
segment_item w segment = record { from = w; post = Segment segment }

-- an item that says that its worker posts no more
abbrev pub end_item : Worker → WorkerPost
end_item w = record { from = w; post = End }

-- all that a worker posts: its segments, and at last that it posts no more
abbrev pub posts_of : Worker → List PlacedEvents → List WorkerPost
posts_of w segments = map (segment_item w) segments ++ end_item w ∷ []

-- ---- what a seat knows

-- what the owner knows: the items that were taken, and how both workers stand
abbrev pub desk : List WorkerPost → WorkerStanding → WorkerStanding → Desk
desk taken first second = record { taken = taken; first = first; second = second }

-- how a worker stands with the owner
abbrev pub standing : Desk → Worker → WorkerStanding
standing d First = d.first
standing d Second = d.second

-- the desk once a worker stands so
abbrev pub with_standing : Desk → Worker → WorkerStanding → Desk
with_standing d First s = desk d.taken s d.second
with_standing d Second s = desk d.taken d.first s

-- the seat is the owner's
abbrev pub IsOwner : SeatView → Type 0
IsOwner v = (d : Desk) × (v ≡ Owner d)

-- the seat is the owner's, who hasn't made this worker
abbrev pub IsWithout : Worker → SeatView → Type 0
IsWithout w v = (d : Desk) × (v ≡ Owner d) × (standing d w ≡ Unmade)

-- the seat is this worker's
abbrev pub IsPoster : Worker → SeatView → Type 0
IsPoster w v = (posted : List WorkerPost) × (v ≡ Poster w posted)

-- these are seats at one queue
abbrev pub AreSeatsAt : {Q M L A : Type 0} → Rows (Badge (Key WorkerPost)) (Doing WorkerPost SeatView) Q M (Key WorkerPost) L A → Pass WorkerPost SeatView → Pass WorkerPost SeatView → Pass WorkerPost SeatView → Type 0
AreSeatsAt queue owner first second = IsSeatAt queue owner × IsSeatAt queue first × IsSeatAt queue second

-- ---- steps: each by the role of its seat, and nothing at another role

-- the seat of a worker that has posted an item
abbrev pub after_post : SeatView → WorkerPost → SeatView
after_post (Poster w posted) item = Poster w (posted ++ item ∷ [])
after_post (Owner d) item = Owner d
after_post Spent item = Spent

-- the seat of the owner that has taken an item
abbrev pub after_take : SeatView → WorkerPost → SeatView
after_take (Owner d) item = Owner (desk (d.taken ++ item ∷ []) d.first d.second)
after_take (Poster w posted) item = Poster w posted
after_take Spent item = Spent

-- the seat of the owner that has made a worker
abbrev pub after_make : Worker → SeatView → SeatView
after_make w (Owner d) = Owner (with_standing d w Running)
after_make w (Poster u posted) = Poster u posted
after_make w Spent = Spent

-- the seat of the owner once a worker's is handed over
abbrev pub joined_with : Desk → SeatView → SeatView
joined_with d (Poster w posted) = Owner (with_standing d w (Joined posted))
joined_with d (Owner e) = Owner d
joined_with d Spent = Owner d

-- the seat of the owner that has joined a worker
abbrev pub after_join : SeatView → SeatView → SeatView
after_join (Owner d) other = joined_with d other
after_join (Poster u posted) other = Poster u posted
after_join Spent other = Spent
