-- How an index of pairs follows what is known, rank by rank.
use Rattle.std.specs.Prelude.{◌≡◌, ℕ, ◌<◌, false, Option, IfSome, List, length, map, slice_index_or}
use Rattle.mpi_model.specs.Layouts.{Parts}
use Rattle.trace_know.specs.View.{View, IsBelow}
use Rattle.trace_know.specs.Prefix.{is_beyond, prefix_of}
use Rattle.trace_ops.specs.Ops.{Ops, no_ops}
use Rattle.trace_ops.specs.RankOps.{ops_of}
use Rattle.trace_node.specs.Answer.{Answered, IsAnswer, ranks_of}
use Rattle.trace_node.specs.Node.{IsWithin}
use Rattle.trace_node.specs.declared.follow.Followed.{Followed}
use Rattle.trace_node.specs.declared.follow.Reach.{Reach}

-- how far a rank is known
abbrev pub reach_of : View → ℕ → Reach
reach_of view rank = record { prefix = prefix_of view rank; beyond = is_beyond view rank }

-- how far each rank is known
abbrev pub reaches_of : Parts → View → List Reach
reaches_of layout view = map (reach_of view) (ranks_of layout)

-- of a rank of which nothing is known
abbrev pub no_reach : Reach
no_reach = record { prefix = 0; beyond = false }

-- The rank did this by some older view, in which it was known so far.
pub record WasFollowed (layout : Parts) (know : View) (rank : ℕ) (reach : Reach) (ops : Ops) : Type 0 where
  pub old : View
  pub below : IsBelow old know
  pub reached : reach ≡ reach_of old rank
  pub did : ops ≡ ops_of layout old rank

-- An index follows what is known: of each rank it holds what that did by an older view, not the same one for all, and
-- beside it stands how far the rank was known then.
pub record IsFollowing (layout : Parts) (know : View) (f : Followed) : Type 0 where
  pub reaches_all : length f.reaches.items ≡ layout.ranks
  pub holds_all : length f.index ≡ layout.ranks
  pub each : (rank : ℕ) → rank < layout.ranks → WasFollowed layout know rank (slice_index_or f.reaches.items rank no_reach) (slice_index_or f.index rank no_ops)

-- It does so, and the ranks below `done` were known as far as they are now.
pub record IsFollowedTo (layout : Parts) (know : View) (done : ℕ) (f : Followed) : Type 0 where
  pub following : IsFollowing layout know f
  pub reached : (rank : ℕ) → rank < done → slice_index_or f.reaches.items rank no_reach ≡ reach_of know rank

-- What holds in every node: it knows of the layout's ranks alone; its index, where there is one, follows what it knows;
-- and its answer, where there is one, is that to all that it knows.
pub record IsNode (layout : Parts) (know : View) (followed : Option Followed) (answer : Option Answered) : Type 0 where
  pub within : IsWithin layout know
  pub follows : IfSome followed (IsFollowing layout know)
  pub answers : IfSome answer (IsAnswer layout know)
