-- What is told of the ranks of a layout one after another, each by what is known of it alone.
use Rattle.std.specs.Prelude.{◌≡◌, ℕ, ◌+◌, ◌<◌, Option, List, [], ◌∷◌, ◌++◌, IsSome, map, slice_index_or}
use Rattle.std.specs.List.{range_with_len}
use Rattle.mpi_model.specs.Layouts.{Parts}
use Rattle.trace_know.specs.View.{View, cell, join}
use Rattle.trace_know.specs.Prefix.{prefix_of, is_beyond, is_unread}
use Rattle.trace_know.specs.Listing.{conflicts_of}
use Rattle.trace_ops.specs.Ops.{Ops}
use Rattle.trace_ops.specs.RankOps as ranks
use Rattle.trace_stuck.specs.Shape.{Wait}
use Rattle.trace_wait.specs.Ranks.{ops_of}
use Rattle.trace_node.specs.Answer.{Answered, AreStuck, IsAnswer, IsAnswerBy, Stopped, call_of, states_of, wait_at, waits_of, wall_of}
use Rattle.trace_node.specs.declared.answer.parts.RankReading.{RankReading}
use Rattle.trace_node.specs.declared.answer.parts.Reading.{Reading}
use Rattle.trace_node.specs.declared.by_rank.AnswerWithOps.{AnswerWithOps}
use Rattle.trace_node.specs.declared.by_rank.RankByRank.{RankByRank}
use Rattle.trace_node.specs.declared.by_rank.RankTold.{RankTold}

-- All that is known is of one rank.
abbrev pub IsOfRank : View → ℕ → Type 0
IsOfRank view rank = (r place : ℕ) → IsSome (cell view r place) → r ≡ rank

-- All that is known is of ranks below a number.
abbrev pub IsBelowRank : View → ℕ → Type 0
IsBelowRank view count = (rank place : ℕ) → IsSome (cell view rank place) → rank < count

-- How far each rank below a number can be read, and where all that is known is contradicted.
pub record IsReading (count : ℕ) (view : View) (r : Reading) : Type 0 where
  pub prefixes : r.prefixes.items ≡ map (prefix_of view) (range_with_len 0 count)
  pub beyond : r.beyond.items ≡ map (is_beyond view) (range_with_len 0 count)
  pub unread : r.unread.items ≡ map (is_unread view) (range_with_len 0 count)
  pub conflicts : r.conflicts.items ≡ conflicts_of view

-- How far one rank can be read, and where all that is known is contradicted, by what is known of it alone.
pub record IsReadingOf (rank : ℕ) (know : View) (one : RankReading) : Type 0 where
  pub prefix : one.prefix ≡ prefix_of know rank
  pub beyond : one.beyond ≡ is_beyond know rank
  pub unread : one.unread ≡ is_unread know rank
  pub conflicts : one.conflicts.items ≡ conflicts_of know

-- The reading of one rank more stands at the end of that of the ranks before.
pub record TakesReading (one : RankReading) (old new : Reading) : Type 0 where
  pub prefixes : new.prefixes.items ≡ old.prefixes.items ++ one.prefix ∷ []
  pub beyond : new.beyond.items ≡ old.beyond.items ++ one.beyond ∷ []
  pub unread : new.unread.items ≡ old.unread.items ++ one.unread ∷ []
  pub conflicts : new.conflicts.items ≡ old.conflicts.items ++ one.conflicts.items

-- the wall time at which a rank that did this entered the call in which it waits
abbrev pub entered_by : View → ℕ → Ops → ℕ
entered_by view rank own = wall_of view rank (call_of own)

-- the same of each rank of a layout, by what all ranks did
abbrev pub walls_of : Parts → View → List Ops → List ℕ
walls_of layout view ops = map (λ r. entered_by view r (ops_of ops r)) (range_with_len 0 layout.ranks)

-- A list tells of each rank when it entered the call in which it waits.
abbrev pub AreWalls : View → List Ops → List ℕ → Type 0
AreWalls view ops walls = (r : ℕ) → slice_index_or walls r 0 ≡ entered_by view r (ops_of ops r)

-- what is told of a stuck rank, by when each rank entered the call in which it waits
abbrev pub stopped_by : List ℕ → List Ops → List (Option Wait) → ℕ → Stopped
stopped_by walls ops waits r = record { rank = r; call = call_of (ops_of ops r); wall = slice_index_or walls r 0; waits = wait_at waits r }

-- the same of all stuck ranks
abbrev pub AreStopped : Parts → List ℕ → List Ops → List Stopped → Type 0
AreStopped layout walls ops all = (ranks : List ℕ) × AreStuck (states_of ops) (waits_of layout ops) ranks × (all ≡ map (stopped_by walls ops (waits_of layout ops)) ranks)

-- The ranks below a number were told by this view, which knows of no other: how far they can be read, where they are
-- contradicted, what they did, and when each entered the call in which it waits.
pub record AreTold (layout : Parts) (view : View) (count : ℕ) (t : RankByRank) : Type 0 where
  pub below : IsBelowRank view count
  pub reading : IsReading count view t.reading
  pub ops : t.ops.items ≡ map (ranks.ops_of layout view) (range_with_len 0 count)
  pub walls : t.walls.items ≡ map (λ r. entered_by view r (ranks.ops_of layout view r)) (range_with_len 0 count)

-- What an answer needs of a rank was told, by what is known of it alone.
pub record IsToldOf (layout : Parts) (rank : ℕ) (know : View) (told : RankTold) : Type 0 where
  pub reading : IsReadingOf rank know told.reading
  pub ops : told.ops ≡ ranks.ops_of layout know rank
  pub wall : told.wall ≡ entered_by know rank told.ops

-- The next rank was told too, by what is known of it alone: then all of them were told by the join.
abbrev pub TellsNext : Parts → ℕ → View → RankByRank → RankByRank → Type 0
TellsNext layout rank know old new = (view : View) → AreTold layout view rank old → IsOfRank know rank → AreTold layout (join view know) (rank + 1) new

-- What was told of a rank was taken as that of the next.
abbrev pub TakesNext : RankTold → RankByRank → RankByRank → Type 0
TakesNext told old new = (layout : Parts) (rank : ℕ) (know : View) → IsToldOf layout rank know told → TellsNext layout rank know old new

-- The answer of each view of which this was told.
abbrev pub AnswersWhatIsTold : Parts → Reading → List ℕ → List Ops → Answered → Type 0
AnswersWhatIsTold layout reading walls ops answer = (view : View) → IsReading layout.ranks view reading → AreWalls view ops walls → IsAnswerBy layout view ops answer

-- This is the answer to a view, and what each rank did by it.
abbrev pub AnswersWithOps : Parts → View → AnswerWithOps → Type 0
AnswersWithOps layout view told = IsAnswer layout view told.answer × (told.index ≡ ranks.all_ops layout view)
