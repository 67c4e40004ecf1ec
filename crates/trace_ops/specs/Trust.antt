-- What a Cancel leaves of a message or a receive (MPI 4.0, 3.8.4), and which requests a Cancel names.
use Rattle.std.specs.Prelude.{ℕ, ℤ, Bool, true, false, ◌&&◌, ◌||◌, not, if◌then◌else◌, Option, Some, None, is_some, List, [], ◌∷◌}
use Rattle.std.specs.List.{filter_map}
use Rattle.std.specs.Ordering.{int_eq}
use Rattle.mpi_model.specs.declared.call.Call.{Call}
use Rattle.mpi_model.specs.declared.call.Call.TheVariants.{Cancel, Imrecv}
use Rattle.mpi_model.specs.declared.event.OpName.{OpName}
use Rattle.mpi_model.specs.declared.message.Trust.{Trust}
use Rattle.mpi_model.specs.declared.message.Trust.TheVariants.{Sure, Doubtful, Void}
use Rattle.mpi_model.specs.declared.told.Told.{Told}
use Rattle.mpi_model.specs.declared.told.Told.TheVariants.{Nothing, Source, Cancelled}
use Rattle.mpi_model.specs.Tells.{is_cancelled}
use Rattle.trace_ops.specs.declared.completed.Completed.{Completed}
use Rattle.trace_ops.specs.Request.{is_posted}
use Rattle.trace_ops.specs.Source.{told_of_post}
use Rattle.trace_ops.specs.Steps.{Placed, Step, completed_by, name_of, placed, posted_by, touches}

-- the number that a Cancel names; that it was entered is enough
abbrev pub cancel_of : Call → Option ℤ
cancel_of (Cancel request) = Some request
cancel_of call = None

-- the step asks that this request be cancelled (MPI 4.0, 3.8.4)
abbrev pub cancels : ℤ → Step → Bool
cancels x s = is_posted (cancel_of s.entry.call) x

-- A Cancel names the request x, which was posted before these steps: it comes before a step that completes x, frees it
-- or posts it anew.
abbrev pub has_cancel : ℤ → List Step → Bool
has_cancel x [] = false
has_cancel x (s ∷ later) = cancels x s || (not (touches x s) && has_cancel x later)

-- the first of two that says something
abbrev pub first_said : Told → Told → Told
first_said Nothing told = told
first_said (Source rank) told = Source rank
first_said Cancelled told = Cancelled

-- what an outcome says of the request x, at its first place that says something
abbrev pub said_in : ℤ → List Completed → Told
said_in x [] = Nothing
said_in x (c ∷ done) = if int_eq c.request x then first_said c.told (said_in x done) else said_in x done

-- what the steps after a post of x say of it: the first of them that completes x decides, as for its source
abbrev pub said_by : ℤ → List Step → Told
said_by x [] = Nothing
said_by x (s ∷ later) = if touches x s then said_in x (completed_by s) else said_by x later

-- Void: a Cancel names it, and the outcome says that it was cancelled. Without a Cancel that says nothing. Doubtful: a
-- Cancel names it, and no source is told, by which it is known that a receive took a message. Sure: all else.
abbrev pub trust_with : (cancelled void told : Bool) → Trust
trust_with false void told = Sure
trust_with true true told = Void
trust_with true false true = Sure
trust_with true false false = Doubtful

-- by what later steps tell of the request that a step posted, and whether they tell a source
abbrev pub trust_of_post : List Step → Option ℤ → Bool → Trust
trust_of_post later None told = Sure
trust_of_post later (Some x) told = trust_with (has_cancel x later) (is_cancelled (said_by x later)) told

-- of a message whose send posted this number; no outcome tells that it went out
abbrev pub trust_of_send : List Step → Option ℤ → Trust
trust_of_send later posted = trust_of_post later posted false

-- of a receive that posted this number; its source may be told by the outcome also where the call names it
abbrev pub trust_of_receive : List ℕ → List Step → Option ℤ → Trust
trust_of_receive members later posted = trust_of_post later posted (is_some (told_of_post members later posted))

-- The call receives what a matched probe took (MPI 4.0, 3.8.3).
abbrev pub is_matched_receive : Call → Bool
is_matched_receive Imrecv = true
is_matched_receive call = false

-- a Cancel names the number that was posted
abbrev pub is_cancelled_post : Option ℤ → List Step → Bool
is_cancelled_post None later = false
is_cancelled_post (Some x) later = has_cancel x later

-- One of these steps is an Imrecv whose request a Cancel names. Where that cancels it, it gives its message back, and
-- no handle is read that says which probe took that message (MPI 4.0, 3.8.3 and 3.8.4).
abbrev pub gives_back : List Step → Bool
gives_back [] = false
gives_back (s ∷ later) = (is_matched_receive s.entry.call && is_cancelled_post (posted_by s) later) || gives_back later

-- the same of a call that posts this number and is before these steps, and of the steps
abbrev pub gives_back_with : Call → Option ℤ → List Step → Bool
gives_back_with call posted later = (is_matched_receive call && is_cancelled_post posted later) || gives_back later

-- by whether a message may have been given back
abbrev pub trust_by : Bool → Trust
trust_by true = Doubtful
trust_by false = Sure

-- of a matched probe before these steps, which has taken a message
abbrev pub trust_of_probe : List Step → Trust
trust_of_probe later = trust_by (gives_back later)

-- the name of what a step posted, where a Cancel names its number
abbrev pub cancelled_with : OpName → List Step → Option ℤ → Option OpName
cancelled_with name later posted = if is_cancelled_post posted later then Some name else None

-- the name of what a step posts, where a Cancel names its number
abbrev pub cancelled_post : ℕ → Placed → Option OpName
cancelled_post rank p = cancelled_with (name_of rank p.step) p.later (posted_by p.step)

-- the names of the requests that a Cancel names, active or not, in order of posting
abbrev pub cancelled_of : ℕ → List Step → List OpName
cancelled_of rank steps = filter_map (cancelled_post rank) (placed steps)
