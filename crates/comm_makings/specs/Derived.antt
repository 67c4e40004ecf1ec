-- What derives from what the ranks called: the communicators, windows and files of a layout, and which communicators
-- are left out of it.
use Rattle.std.specs.Prelude.{◌≡◌, ◌⊎◌, ◌++◌, ℕ, Bool, List, Some, Vec, length}
use Rattle.std.specs.List.{Contains}
use Rattle.std.specs.declared.alloc.Global.{Global}
use Rattle.mpi_model.specs.Communicators.{Communicator}
use Rattle.comm_makings.specs.Here.{call_at, meant_at}
use Rattle.comm_makings.specs.Left.{giving, left_out_of}
use Rattle.comm_makings.specs.ObjectMakings.{AreObjects}
use Rattle.comm_makings.specs.State.{AreDerived, AreInterMembers, AreInters, AreMembers, IsMemberOf, IsSideOf}
use Rattle.comm_makings.specs.Uses.{AreAllCounted, count_at}
use Rattle.comm_makings.specs.Views.{AreViews}
use Rattle.comm_makings.specs.World.{world_of}
use Rattle.comm_makings.specs.Written.{IsWritten}
use Rattle.comm_makings.specs.declared.answer.Choice.{Choice}
use Rattle.comm_makings.specs.declared.answer.Derived.{Derived}
use Rattle.comm_makings.specs.declared.answer.LeftOut.{LeftOut}
use Rattle.comm_makings.specs.declared.calls.CommCall.{CommCall}
use Rattle.comm_makings.specs.declared.calls.RankCalls.{RankCalls}
use Rattle.comm_makings.specs.declared.handle.Gives.TheVariants as gives
use Rattle.comm_makings.specs.declared.handle.Meant.{Meant}
use Rattle.comm_makings.specs.declared.left.Giver.{Giver}
use Rattle.comm_makings.specs.declared.state.HandleState.{HandleState}
use Rattle.comm_makings.specs.declared.state.Made.{Made}
use Rattle.comm_makings.specs.declared.uses.AllUses.{AllUses}
use Rattle.comm_makings.specs.declared.uses.HandleUses.{HandleUses}
use Rattle.comm_makings.specs.declared.view.RankView.{RankView}

-- A communicator or an intercommunicator that is made has the rank as a member, by this handle.
abbrev pub IsOfMade : List Made → List Made → ℕ → ℕ → Type 0
IsOfMade made inters rank handle = ((place : ℕ) × IsMemberOf made place rank handle) ⊎ ((place : ℕ) × (second : Bool) × IsSideOf inters place rank handle second)

-- what the call of a rank gives is left out, with its calls counted
pub record IsLeftOut (left_out : List LeftOut) (rank call count : ℕ) : Type 0 where
  pub left : LeftOut
  pub listed : Contains left_out left
  pub of_rank : left.rank ≡ rank
  pub of_call : left.call ≡ call
  pub counted : left.uses ≡ count

-- Nothing is lost: each handle that a returned call gives is a member's of a communicator that is made, which is
-- written where a call of the profile names it, or it is left out, and the calls that name it are counted.
pub record AreAccounted (ranks : List RankCalls) (views : List RankView) (uses : List HandleUses) (made inters : List Made) (left_out : List LeftOut) : Type 0 where
  pub each : (rank at handle : ℕ) (call : CommCall) (giver : Giver) (meant : Meant) → call_at ranks rank at ≡ Some call → giving call.action ≡ Some giver
      → meant_at views rank at ≡ Some meant → meant.gives ≡ gives.Handle handle → IsOfMade made inters rank handle ⊎ IsLeftOut left_out rank call.call (count_at uses rank (Some handle))

-- What derives from what the ranks called: each communicator and each intercommunicator that is made derives (MPI 4.0,
-- chapters 7 and 8), and so do the windows and files of these (12.2 and 14.2); those that calls name, or calls that
-- don't end them, are written behind the world, and all other communicators that calls give are left out.
--
-- `Derives` asks for less than a communicator needs, in these points:
-- * A making of which nothing is made counts as read where its calls have one function and what they give can be read,
--   whether or not their parameters agree.
-- * The groups that the calls of one MPI_Comm_create name need not be equal or disjoint.
-- * A communicator of MPI_Comm_create_group can come without the call of a member that has a k-th one too.
-- * A communicator that may be ordered anew can come without dimensions or nodes though all calls, or some, tell them.
-- * Two groups may be joined, and those of an intercommunicator merged, by any calls of the members that agree, not by
--   the k-th of each; and an intercommunicator is duplicated whatever was made of it before.
pub record IsDerivedFrom (choice : Choice) (ranks : List RankCalls) (derived : Derived) : Type 0 where
  pub views : List RankView
  pub uses : AllUses
  pub made : List Made
  pub inters : List Made
  pub objects : List Made
  pub standings : List (Vec HandleState Global)
  pub world : derived.world ≡ world_of ranks
  pub read : AreViews (world_of ranks) ranks views
  pub counted : AreAllCounted ranks views uses
  pub derive : AreDerived ranks views made
  pub derive_inters : AreInters ranks views inters
  pub derive_objects : AreObjects ranks views made objects
  pub stand : AreMembers made standings
  pub stand_inters : AreInterMembers inters standings
  pub written : IsWritten choice (world_of ranks) (length ranks) views uses ((made ++ inters) ++ objects) derived.comms.items
  pub left_out : derived.left_out.items ≡ left_out_of ranks views uses.comms.items standings
  pub accounted : AreAccounted ranks views uses.comms.items made inters derived.left_out.items

-- The part of it that says of communicators, windows and files that they are written as they derive.
pub record IsSound (choice : Choice) (world : ℕ) (ranks : List RankCalls) (comms : List Communicator) : Type 0 where
  pub views : List RankView
  pub uses : AllUses
  pub made : List Made
  pub inters : List Made
  pub objects : List Made
  pub read : AreViews world ranks views
  pub counted : AreAllCounted ranks views uses
  pub derive : AreDerived ranks views made
  pub derive_inters : AreInters ranks views inters
  pub derive_objects : AreObjects ranks views made objects
  pub written : IsWritten choice world (length ranks) views uses ((made ++ inters) ++ objects) comms
