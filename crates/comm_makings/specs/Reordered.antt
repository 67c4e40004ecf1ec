-- Communicators whose members may be ordered anew (MPI 4.0, chapter 8): each is told by MPI_Comm_rank which rank it
-- got.
use Rattle.std.specs.Prelude.{◌≡◌, ℕ, ◌+◌, ◌==◌, Bool, true, false, not, List, [], ◌∷◌, Option, Some, None, Vec, is_some, length, cond}
use Rattle.std.specs.List.{filter_map, list_all, slice_get}
use Rattle.std.specs.Option.{option_and_then, option_map}
use Rattle.std.specs.declared.alloc.Global.{Global}
use Rattle.comm_groups.specs.Orders.{IsOrderOf, are_each_once}
use Rattle.comm_makings.specs.Each.{list_in}
use Rattle.comm_makings.specs.Here.{gives_some, handle_of}
use Rattle.comm_makings.specs.Parts.{IsOne}
use Rattle.comm_makings.specs.declared.here.Here.{Here}
use Rattle.comm_makings.specs.declared.parts.Outcome.{Outcome}
use Rattle.comm_makings.specs.declared.parts.Outcome.TheVariants as outcomes
use Rattle.comm_makings.specs.declared.view.RankView.{RankView}

-- The member has a call that returned.
abbrev pub is_returned : Option Here → Bool
is_returned None = false
is_returned (Some here) = gives_some here.gives

-- Each member has a call that returned.
abbrev pub AreReturned : List (Option Here) → Type 0
AreReturned all = list_all is_returned all ≡ true

-- the places of those that get a communicator, the first of which is this one
abbrev pub given_places : ℕ → List (Option Here) → List ℕ
given_places place [] = []
given_places place (here ∷ all) = cond (is_some (handle_of here)) (place ∷ given_places (place + 1) all) (given_places (place + 1) all)

-- what MPI_Comm_rank first tells a rank on a handle
abbrev pub told_at : List RankView → ℕ → ℕ → Option ℕ
told_at views rank handle = option_and_then (λ v. option_and_then (λ told. told) (slice_get v.told.items handle)) (slice_get views rank)

-- what a member is told on the communicator that it gets
abbrev pub told_here : List RankView → Option Here → ℕ → Option ℕ
told_here views None handle = None
told_here views (Some here) handle = told_at views here.rank handle

-- what a member is told, where it gets a communicator, in front of what the others are told
abbrev pub told_before : List RankView → Option Here → Option ℕ → Option (List ℕ) → Option (List ℕ)
told_before views here None others = others
told_before views here (Some handle) others = option_and_then (λ rank. option_map (λ ranks. rank ∷ ranks) others) (told_here views here handle)

-- what those are told that get a communicator, where all are
abbrev pub told_ranks : List RankView → List (Option Here) → Option (List ℕ)
told_ranks views [] = Some []
told_ranks views (here ∷ all) = told_before views here (handle_of here) (told_ranks views all)

-- The number of members is known, and not as many get the communicator.
abbrev pub differs : Option ℕ → ℕ → Bool
differs None given = false
differs (Some count) given = not (given == count)

-- the same, of those that get the communicator
abbrev pub others_given : Option ℕ → List (Option Here) → Bool
others_given count all = differs count (length (given_places 0 all))

-- at these places, in the order of the ranks that they are told
abbrev pub IsOrdered : List ℕ → List ℕ → Option (List ℕ) → Outcome → Type 0
IsOrdered places told dims outcome = (order : List ℕ) × IsOrderOf told order × IsOne (filter_map (slice_get places) order) dims outcome

-- The same, where the ranks told are those from 0 on, each once; else the making is unsound.
abbrev pub IsOrderedBy : Bool → List ℕ → List ℕ → Option (List ℕ) → Outcome → Type 0
IsOrderedBy false places told dims outcome = outcome ≡ outcomes.Unsound
IsOrderedBy true places told dims outcome = IsOrdered places told dims outcome

-- The members at these places in the order of the ranks that they are told, which are those from 0 on, each once.
abbrev pub IsInToldOrder : List ℕ → Option (List ℕ) → Option (List ℕ) → Outcome → Type 0
IsInToldOrder places None dims outcome = outcome ≡ outcomes.Untold
IsInToldOrder places (Some told) dims outcome = IsOrderedBy (are_each_once told) places told dims outcome

-- those that get the communicator, in the order of the ranks that they are told on it
abbrev pub IsOfTold : List RankView → List (Option Here) → Option (Vec ℕ Global) → Outcome → Type 0
IsOfTold views all dims outcome = IsInToldOrder (given_places 0 all) (told_ranks views all) (list_in dims) outcome
