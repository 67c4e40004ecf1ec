-- The rule of a queue with two workers that post and one owner that takes.
use Rattle.std.specs.Prelude.{◌≡◌, ℕ, Option, Some, None, List, [], ◌++◌}
use mathlib.Core.Option.{some}
use lib.ListN.{get_elem?}
use Rattle.trace_crew.specs.declared.queue.item.Worker.{Worker}
use Rattle.trace_crew.specs.declared.queue.item.Worker.TheVariants.{First, Second}
use Rattle.trace_crew.specs.declared.queue.item.WorkerPost.{WorkerPost}
use Rattle.trace_crew.specs.declared.queue.rule.WorkerStanding.{WorkerStanding}
use Rattle.trace_crew.specs.declared.queue.rule.WorkerStanding.TheVariants.{Unmade, Running, Joined}
use Rattle.trace_crew.specs.declared.queue.rule.SeatView.{SeatView}
use Rattle.trace_crew.specs.declared.queue.rule.SeatView.TheVariants.{Owner, Poster, Spent}
use Rattle.trace_crew.specs.Views.{of, standing}

-- What the owner knows of a worker that has this seat and has posted these items: of one not yet made, that it has
-- posted nothing; of one that was joined, all that it posted.
abbrev pub Knows : Option ℕ → List WorkerPost → WorkerStanding → Type 0
Knows seat posted Unmade = (seat ≡ None) × (posted ≡ [])
Knows seat posted Running = Unit {0}
Knows seat posted (Joined all) = (seat ≡ None) × (all ≡ posted)

-- What a seat knows is so: the owner's, what was taken and how each worker stands; a worker's, what it posted. A spent
-- seat knows nothing.
abbrev pub Fits : ℕ → List WorkerPost → (Worker → Option ℕ) → (Worker → List WorkerPost) → ℕ → SeatView → Type 0
Fits owner taken seat posted pass (Owner d) = (pass ≡ owner) × (d.taken ≡ taken) × ((w : Worker) → Knows (seat w) (posted w) (standing d w))
Fits owner taken seat posted pass (Poster w all) = (seat w ≡ Some pass) × (all ≡ posted w)
Fits owner taken seat posted pass Spent = Unit {0}

-- The rule. There is one owner, and one seat of each worker that it has made and not joined; and of each worker, what
-- was taken and then what the queue holds is what it posted.
abbrev pub InOrder : List WorkerPost → List SeatView → Type 0
InOrder items views =
    (owner : ℕ) × (taken : List WorkerPost) × (seat : Worker → Option ℕ) × (posted : Worker → List WorkerPost)
    × ((w : Worker) → of w (taken ++ items) ≡ posted w)
    × ((pass : ℕ) (v : SeatView) → get_elem? views pass ≡ some v → Fits owner taken seat posted pass v)

-- these items, restricted to a worker that was joined, are all that it posted
abbrev pub AreAllOf : Worker → List WorkerPost → WorkerStanding → Type 0
AreAllOf w items Unmade = Unit {0}
AreAllOf w items Running = Unit {0}
AreAllOf w items (Joined all) = of w items ≡ all

-- of each worker that was joined, what was taken and then what the queue holds are all that it posted
abbrev pub Arrived : SeatView → List WorkerPost → Type 0
Arrived (Owner d) items = AreAllOf First (d.taken ++ items) d.first × AreAllOf Second (d.taken ++ items) d.second
Arrived (Poster w posted) items = Unit {0}
Arrived Spent items = Unit {0}
