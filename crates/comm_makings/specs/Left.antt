-- What is left out: each communicator that a call gives and that isn't derived, with the calls of the profile that name
-- it.
use Rattle.std.specs.Prelude.{ℕ, Bool, true, false, List, Option, Some, None, cond, length, nat_lt, unwrap_or}
use Rattle.std.specs.List.{filter_map, flat_map, range_with_len, slice_get}
use Rattle.std.specs.Option.{option_and_then, option_map}
use Rattle.std.specs.Prelude.{Vec}
use Rattle.std.specs.declared.alloc.Global.{Global}
use Rattle.comm_makings.specs.Here.{call_at, function_of, gives_later, meant_at}
use Rattle.comm_makings.specs.State.{standing_at}
use Rattle.comm_makings.specs.Uses.{count_at}
use Rattle.comm_makings.specs.declared.answer.LeftOut.{LeftOut}
use Rattle.comm_makings.specs.declared.answer.MadeBy.{MadeBy}
use Rattle.comm_makings.specs.declared.answer.MadeBy.TheVariants as functions
use Rattle.comm_makings.specs.declared.answer.Why.{Why}
use Rattle.comm_makings.specs.declared.answer.Why.TheVariants as whys
use Rattle.comm_makings.specs.declared.calls.Action.{Action}
use Rattle.comm_makings.specs.declared.calls.Action.TheVariants as actions
use Rattle.comm_makings.specs.declared.calls.CommCall.{CommCall}
use Rattle.comm_makings.specs.declared.calls.Given.{Given}
use Rattle.comm_makings.specs.declared.calls.Given.TheVariants as givens
use Rattle.comm_makings.specs.declared.calls.RankCalls.{RankCalls}
use Rattle.comm_makings.specs.declared.handle.Gives.{Gives}
use Rattle.comm_makings.specs.declared.handle.Gives.TheVariants as gives
use Rattle.comm_makings.specs.declared.handle.Meant.{Meant}
use Rattle.comm_makings.specs.declared.left.Giver.{Giver}
use Rattle.comm_makings.specs.declared.left.Reason.{Reason}
use Rattle.comm_makings.specs.declared.state.HandleState.{HandleState}
use Rattle.comm_makings.specs.declared.state.HandleState.TheVariants as standings
use Rattle.comm_makings.specs.declared.uses.HandleUses.{HandleUses}
use Rattle.comm_makings.specs.declared.view.RankView.{RankView}

-- the number of the communicator that is given, where it can be read
abbrev pub number_said : Given → Option ℕ
number_said (givens.Number number) = Some number
number_said _ = None

-- the function of a call that gives a communicator, and the number that it gives
abbrev pub giving : Action → Option Giver
giving (actions.Make parent making given) = Some (record { made_by = function_of making; number = number_said given })
giving (actions.Join local leaders given) = Some (record { made_by = functions.IntercommCreate; number = number_said given })
giving (actions.Merge comm high given) = Some (record { made_by = functions.IntercommMerge; number = number_said given })
giving (actions.GivesComm maker comm given) = Some (record { made_by = functions.Other maker; number = number_said given })
giving _ = None

-- Why a handle is left out of which nothing was derived: by its function, since no leader answers, by a parent that is
-- left out, or by one that is unknown.
abbrev pub why_open : MadeBy → Bool → Why
why_open (functions.Other maker) known = whys.Function
why_open functions.IntercommCreate known = whys.Untold
why_open _ true = whys.Parent
why_open _ false = whys.UnknownParent

-- why a handle that stands so is left out, where it is
abbrev pub why_left : Option HandleState → MadeBy → Bool → Option Why
why_left None function known = Some (why_open function known)
why_left (Some standings.Open) function known = Some (why_open function known)
why_left (Some (standings.Derived place)) function known = None
why_left (Some (standings.Inter place second)) function known = None
why_left (Some (standings.Left why)) function known = Some why

-- a reason, with the handle
abbrev pub with_handle : ℕ → Why → Reason
with_handle handle why = record { why = why; handle = Some handle }

-- Why what a call gives is left out, where it is: what is null isn't, nor what may be given later.
abbrev pub why_of : Gives → Option HandleState → MadeBy → Bool → Option Reason
why_of gives.Nothing standing function known = None
why_of gives.Null standing function known = None
why_of (gives.Taken handle) standing function known = Some (with_handle handle whys.Taken)
why_of gives.Unknown standing function known = cond (gives_later function) None (Some (record { why = whys.Unsound; handle = None }))
why_of (gives.Handle handle) standing function known = option_map (with_handle handle) (why_left standing function known)

-- the handle that a call gives
abbrev pub handle_in : Gives → Option ℕ
handle_in (gives.Handle handle) = Some handle
handle_in _ = None

-- the parents of the makings of a rank are known up to this place
abbrev pub is_known_to : List RankView → ℕ → ℕ → Bool
is_known_to views rank at = nat_lt at (unwrap_or (option_map (λ v. v.end) (slice_get views rank)) 0)

-- what is left out by a call of a rank
abbrev pub left_with : List HandleUses → ℕ → ℕ → Giver → Reason → LeftOut
left_with uses rank call given reason = record { rank = rank; call = call; made_by = given.made_by; number = given.number; uses = count_at uses rank reason.handle; why = reason.why }

-- how the handle stands that a call of a rank gives
abbrev pub standing_given : List (Vec HandleState Global) → ℕ → Gives → Option HandleState
standing_given stand rank given = option_and_then (standing_at stand rank) (handle_in given)

-- the same by what the call gives
abbrev pub left_of : List HandleUses → List (Vec HandleState Global) → ℕ → ℕ → Bool → Giver → Meant → Option LeftOut
left_of uses stand rank call known given meant = option_map (left_with uses rank call given) (why_of meant.gives (standing_given stand rank meant.gives) given.made_by known)

-- the same by what the call does
abbrev pub left_by : List RankView → List HandleUses → List (Vec HandleState Global) → ℕ → ℕ → CommCall → Option LeftOut
left_by views uses stand rank at call = option_and_then (λ given. option_and_then (left_of uses stand rank call.call (is_known_to views rank at) given) (meant_at views rank at)) (giving call.action)

-- what the call at this place of a rank's list gives, where that is left out
abbrev pub left_at : List RankCalls → List RankView → List HandleUses → List (Vec HandleState Global) → ℕ → ℕ → Option LeftOut
left_at ranks views uses stand rank at = option_and_then (left_by views uses stand rank at) (call_at ranks rank at)

-- how many calls a rank's list has
abbrev pub calls_in : List RankCalls → ℕ → ℕ
calls_in ranks rank = unwrap_or (option_map (λ c. length c.calls.items) (slice_get ranks rank)) 0

-- what a rank's calls give that is left out, in their order
abbrev pub left_in : List RankCalls → List RankView → List HandleUses → List (Vec HandleState Global) → ℕ → List LeftOut
left_in ranks views uses stand rank = filter_map (left_at ranks views uses stand rank) (range_with_len 0 (calls_in ranks rank))

-- All that is left out, by rank and then by call.
abbrev pub left_out_of : List RankCalls → List RankView → List HandleUses → List (Vec HandleState Global) → List LeftOut
left_out_of ranks views uses stand = flat_map (left_in ranks views uses stand) (range_with_len 0 (length ranks))
