-- What a request waits for, by the operation that it stands for (MPI 4.0, 3.7.3, 3.7.5, 3.9 and 6.12).
use Rattle.std.specs.Prelude.{◌≡◌, ◌||◌, ◌++◌, ℕ, ℤ, Bool, Option, Some, None, List, [], ◌∷◌, map, if◌then◌else◌}
use Rattle.std.specs.List.{find, filter_map, list_any}
use Rattle.std.specs.Option.{option_map}
use Rattle.std.specs.Ordering.{int_eq}
use Rattle.mpi_model.specs.Requests.{null_request}
use Rattle.mpi_model.specs.declared.event.OpName.{OpName}
use Rattle.mpi_model.specs.declared.message.Message.{Message}
use Rattle.mpi_model.specs.declared.message.Receive.{Receive}
use Rattle.trace_stuck.specs.declared.condition.Condition.{Condition}
use Rattle.trace_stuck.specs.Shape.{Wait, OnNothing, OnOne, waits_of, shape}
use Rattle.trace_ops.specs.Ops.{Ops}
use Rattle.trace_wait.specs.Parts.{Run, is_of, send_of, send_part, receive_of, receive_part}
use Rattle.trace_wait.specs.Collectives.{collective_of_call}

-- What an operation of rank r waits for: as a send, as a receive, or as its entry into a round. An Imrecv is none of
-- these, since its message is the rank's already (MPI 4.0, 3.8.3).
abbrev pub started_part : Run → ℕ → Ops → OpName → Wait
started_part s r o name = sent (send_of o name)
  where
    received : Option Receive → Wait
    received (Some q) = receive_part s q
    received None = collective_of_call s r o name.call

    sent : Option Message → Wait
    sent (Some m) = send_part s m
    sent None = received (receive_of o name)

-- A Cancel names the request of an operation.
abbrev pub has_cancel : Ops → OpName → Bool
has_cancel o name = list_any (is_of name) o.cancelled

-- A request waits as its operation. Rank r posted it. One that a Cancel names is completed in any case, by its
-- operation or by the Cancel (MPI 4.0, 3.8.4).
abbrev pub post_part : Run → ℕ → Ops → OpName → Wait
post_part s r o name = if has_cancel o name then OnNothing else started_part s r o name

-- the operation that the request of this number stands for, among requests with their operations
abbrev pub posted_in : List (ℤ × OpName) → ℤ → Option OpName
posted_in active x = option_map (λ a. a.1) (find (λ a. int_eq a.0 x) active)

-- the operation that the active request of this number stands for
abbrev pub posted_by : Ops → ℤ → Option OpName
posted_by o x = posted_in o.active x

-- what each active request of the list waits for, in the list's order
abbrev pub requests : Run → ℕ → Ops → List ℤ → List Wait
requests s r o xs = filter_map (λ x. option_map (post_part s r o) (posted_by o x)) xs

-- one of these; nothing where there is none
abbrev pub some_of : List Wait → Wait
some_of [] = OnNothing
some_of (p ∷ ps) = OnOne (waits_of (p ∷ ps))

-- the request of this number; one that is not active waits for nothing
abbrev pub request : Run → ℕ → Ops → ℤ → Wait
request s r o x = part (posted_by o x)
  where
    part : Option OpName → Wait
    part (Some name) = post_part s r o name
    part None = OnNothing

-- Under this number the value came, and under no other anything changed.
abbrev pub PutsAt : {V : Type 0} → ℤ → V → (old new : ℤ → Option V) → Type 0
PutsAt x v old new = (y : ℤ) → new y ≡ (if int_eq x y then Some v else old y)

-- Parts with these shapes came behind the others.
abbrev pub AddsShapes : (old new : List Condition) → List Wait → Type 0
AddsShapes old new added = map shape new ≡ map shape old ++ added

-- These are what requests of the rank wait for, each found by its number.
abbrev pub AreMade : Run → ℕ → Ops → (ℤ → Option Condition) → Type 0
AreMade s r o made = (x : ℤ) (c : Condition) → made x ≡ Some c → shape c ≡ request s r o x

-- A persistent request of this number is held, and isn't active.
abbrev pub is_idle : Ops → ℤ → Bool
is_idle o x = list_any (λ y. int_eq y x) o.idle

-- What a number adds to a list of which one request has to be completed. The null number adds nothing, and neither does
-- an idle one. Another number that is not active may be of a request that a call posted which isn't read here, and then
-- nothing is known of it.
abbrev pub choice : Run → ℕ → Ops → ℤ → Option Wait
choice s r o x = if int_eq x null_request || is_idle o x then None else Some (request s r o x)

-- what each number of the list adds, in the list's order
abbrev pub choices : Run → ℕ → Ops → List ℤ → List Wait
choices s r o xs = filter_map (choice s r o) xs
