-- Requests: which calls give and free their numbers, and which outcomes complete them (MPI 4.0, 3.7.2, 3.7.3, 3.7.5,
-- 3.8.3, 3.9 and 6.12.1).
use Rattle.std.specs.Prelude.{ℕ, ℤ, Bool, true, false, ◌&&◌, not, if◌then◌else◌, Option, Some, None, is_none, List, [], ◌∷◌, slice_get}
use Rattle.std.specs.List.{list_any, filter_map, cons_option}
use Rattle.std.specs.Option.{option_map}
use Rattle.std.specs.Ordering.{int_eq}
use Rattle.mpi_model.specs.declared.call.Call.{Call}
use Rattle.mpi_model.specs.declared.call.Call.TheVariants.{Isend, Irecv, Icollective, Imrecv, SendInit, RecvInit, Start, Startall, Wait, Waitall, Waitany, Waitsome, Test, Testall, Testany, Testsome, Free}
use Rattle.mpi_model.specs.declared.outcome.Outs.{Outs}
use Rattle.mpi_model.specs.declared.outcome.Outs.TheVariants.{Posted, Status, Statuses, Index, Several, Flag}
use Rattle.mpi_model.specs.declared.list.elements.Element.{Element}
use Rattle.mpi_model.specs.declared.told.Told.{Told}
use Rattle.mpi_model.specs.declared.told.Told.TheVariants.{Nothing}
use Rattle.mpi_model.specs.Requests.{null_request}
use Rattle.trace_ops.specs.declared.completed.Completed.{Completed}
use Rattle.trace_ops.specs.Calls.{Entry}

-- a request number, unless it is the null number, which names no request (MPI 4.0, 3.7.3: MPI_REQUEST_NULL)
abbrev pub number_for : ℤ → Option ℤ
number_for request = if int_eq request null_request then None else Some request

-- The number that a returned call gives: to the operation that it starts, or, of an init, to the one that it describes.
-- A foreign call gives one too. A Start gives none: the number that it names has its init's operation.
abbrev pub given_of : Call → Option Outs → Option ℤ
given_of (Isend mode e) (Some (Posted request)) = number_for request
given_of (Irecv e) (Some (Posted request)) = number_for request
given_of (Icollective c) (Some (Posted request)) = number_for request
given_of Imrecv (Some (Posted request)) = number_for request
given_of (SendInit mode e) (Some (Posted request)) = number_for request
given_of (RecvInit e) (Some (Posted request)) = number_for request
given_of call outs = None

-- the same of a call with its outcome
abbrev pub given_in : Entry → Option ℤ
given_in c = given_of c.call c.outs

-- The call is an init: it describes a send or a receive, and starts nothing (MPI 4.0, 3.9).
abbrev pub is_init : Call → Bool
is_init (SendInit mode e) = true
is_init (RecvInit e) = true
is_init call = false

-- The call starts what inits describe (MPI 4.0, 3.9).
abbrev pub is_start : Call → Bool
is_start (Start request) = true
is_start (Startall requests) = true
is_start call = false

-- the numbers that such a call lists, in its order
abbrev pub started_by : Call → List ℤ
started_by (Start request) = request ∷ []
started_by (Startall requests) = requests
started_by call = []

-- the call lets its request go, whatever becomes of it (MPI 4.0, 3.7.3)
abbrev pub frees : Call → Bool
frees (Free request) = true
frees call = false

-- the number that a returned Free lets go
abbrev pub freed_of : Call → Option Outs → Option ℤ
freed_of (Free request) (Some outs) = Some request
freed_of call outs = None

-- a request that is completed, with what is told of it
abbrev pub completes : ℤ → Told → Completed
completes request told = record { request = request; told = told }

-- all the requests of a list, each with what the entry at its own place tells; missing entries tell nothing
abbrev pub all_of : List ℤ → List Told → List Completed
all_of [] tells = []
all_of (request ∷ requests) [] = completes request Nothing ∷ all_of requests []
all_of (request ∷ requests) (told ∷ tells) = completes request told ∷ all_of requests tells

-- the request at a position of a list; an index past the list completes nothing
abbrev pub indexed : List ℤ → ℕ → Told → Option Completed
indexed requests position told = option_map (λ request. completes request told) (slice_get requests position)

-- the request at the position of an element, with what the element tells
abbrev pub element_of : List ℤ → Element → Option Completed
element_of requests e = indexed requests e.position e.told

-- the request of a Waitany or Testany, where its outcome has an index
abbrev pub any_of : List ℤ → Option ℕ → Told → List Completed
any_of requests None told = []
any_of requests (Some position) told = cons_option (indexed requests position told) []

-- The requests that a returned call completes, each with what its place of the outcome tells: that of a Wait, that of a
-- Test whose flag is set, all of a Waitall, the indexed ones of a Waitany or Waitsome, and the same of a Testall,
-- Testany or Testsome. A Testall that found some of its requests pending has a flag in place of statuses, and completes
-- none. The Return of a Free ends its request, and tells nothing (3.7.3). An outcome whose kind doesn't belong to its
-- call completes nothing.
abbrev pub completions : Call → Option Outs → List Completed
completions (Wait request) (Some (Status told)) = completes request told ∷ []
completions (Test request) (Some (Flag done told)) = if done then completes request told ∷ [] else []
completions (Waitall requests) (Some (Statuses tells)) = all_of requests tells
completions (Waitany requests) (Some (Index position told)) = any_of requests position told
completions (Waitsome requests) (Some (Several elements)) = filter_map (element_of requests) elements
completions (Testall requests) (Some (Statuses tells)) = all_of requests tells
completions (Testany requests) (Some (Index position told)) = any_of requests position told
completions (Testsome requests) (Some (Several elements)) = filter_map (element_of requests) elements
completions (Free request) (Some outs) = completes request Nothing ∷ []
completions call outs = []

-- The number that is given or freed is this one.
abbrev pub is_posted : Option ℤ → ℤ → Bool
is_posted None x = false
is_posted (Some request) x = int_eq request x

-- This number is among the completed ones.
abbrev pub is_completed : ℤ → List Completed → Bool
is_completed x done = list_any (λ c. int_eq c.request x) done

-- Its outcome completes the requests that the call touches: it gives no number and starts none anew, and frees none.
abbrev pub is_completing : Entry → Bool
is_completing c = is_none (given_of c.call c.outs) && (not (is_start c.call) && not (frees c.call))
