-- The communicators that are made of others: their members are those of the parent at the places that the making says.
use Rattle.std.specs.Prelude.{◌≡◌, ◌≤◌, ◌-◌, ◌^◌, ℕ, List, Option, Some, None, cond, nat_lt}
use Rattle.std.specs.List.{slice_get}
use Rattle.std.specs.Option.{option_and_then, option_map}
use Rattle.comm_makings.specs.Here.{gives_some, handle_of}
use Rattle.comm_makings.specs.declared.here.Here.{Here}
use Rattle.comm_makings.specs.declared.state.Member.{Member}
use Rattle.comm_makings.specs.declared.state.Order.{Order}

-- a member of the parent, with the handle that its own call gives
abbrev pub member_by : Member → Option Here → Member
member_by member here = record { rank = member.rank; handle = handle_of here }

-- The member at a place of the parent: its rank is that in the run, and its handle the one that its own call gives.
abbrev pub member_at : List Member → List (Option Here) → ℕ → Option Member
member_at members all place = option_and_then (λ member. option_map (member_by member) (slice_get all place)) (slice_get members place)

-- the call of a member, where the text has one that returned
abbrev pub returned_in : Option Here → Option Here
returned_in None = None
returned_in (Some here) = cond (gives_some here.gives) (Some here) None

-- the same of the member at a place
abbrev pub returned_at : List (Option Here) → ℕ → Option Here
returned_at all place = option_and_then returned_in (slice_get all place)

-- Of the members at these places whose calls returned this one has the least rank.
pub record IsFirst (places : List ℕ) (all : List (Option Here)) (here : Here) : Type 0 where
  pub at : ℕ
  pub place : ℕ
  pub chosen : slice_get places at ≡ Some place
  pub returned : returned_at all place ≡ Some here
  pub least : (other place : ℕ) (there : Here) → slice_get places other ≡ Some place → returned_at all place ≡ Some there → here.rank ≤ there.rank

-- no call of theirs returned
pub record NoneReturned (places : List ℕ) (all : List (Option Here)) : Type 0 where
  pub none : (at place : ℕ) → slice_get places at ≡ Some place → returned_at all place ≡ None

-- the call of the smallest of the members at these places whose text has it, if any does
abbrev pub IsFirstOf : List ℕ → List (Option Here) → Option Here → Type 0
IsFirstOf places all None = NoneReturned places all
IsFirstOf places all (Some here) = IsFirst places all here

-- of two calls the one of the smaller rank, where both are there
abbrev pub smaller : Option Here → Option Here → Option Here
smaller None here = here
smaller (Some one) None = Some one
smaller (Some one) (Some other) = cond (nat_lt other.rank one.rank) (Some other) (Some one)

-- the order of a communicator by its making call, and then by the member that called it
abbrev pub order_by : Option Here → Order
order_by None = record { class = 2; call = 2 ^ 64 - 1; rank = 2 ^ 32 - 1 }
order_by (Some here) = record { class = 2; call = here.call; rank = here.rank }

-- A communicator comes by the making call of its smallest member whose text has it, and then by that member.
abbrev pub IsMakingOrder : List ℕ → List (Option Here) → Order → Type 0
IsMakingOrder places all order = (first : Option Here) × IsFirstOf places all first × (order ≡ order_by first)

-- the order of the world
abbrev pub world_order : Order
world_order = record { class = 0; call = 0; rank = 0 }

-- the order of MPI_COMM_SELF of a rank
abbrev pub own_order : ℕ → Order
own_order rank = record { class = 1; call = 0; rank = rank }
