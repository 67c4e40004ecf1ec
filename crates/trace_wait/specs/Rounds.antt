-- The collective rounds of a communicator (MPI 4.0, 6.1 and 6.12: the members call in one order, and all of them block
-- or none does).
use Rattle.std.specs.Prelude.{ℕ, ◌+◌, Bool, true, false, ◌==◌, ◌&&◌, not, Option, Some, None, List, [], ◌∷◌, filter, map, length, slice_get, if◌then◌else◌, max, unwrap_or}
use Rattle.std.specs.List.{list_all, flat_map, filter_map, range_with_len}
use Rattle.mpi_model.specs.Communicators.{Communicator, members_of}
use Rattle.mpi_model.specs.Kinds.{KindFunction, kind_number}
use Rattle.trace_ops.specs.declared.entered.Entered.{Entered}
use Rattle.trace_wait.specs.declared.round.Round.{Round}
use Rattle.trace_wait.specs.declared.round.Standing.{Standing}
use Rattle.trace_wait.specs.declared.round.Standing.TheVariants.{Mismatched, Complete, Partial}
use Rattle.trace_ops.specs.Ops.{Ops}
use Rattle.trace_wait.specs.Ranks.{ops_of}

-- two calls have one root, or neither has one
abbrev pub same_root : Option ℕ → Option ℕ → Bool
same_root None None = true
same_root (Some a) (Some b) = a == b
same_root (Some a) None = false
same_root None (Some b) = false

-- Both flags are set, or neither is.
abbrev pub same_flag : Bool → Bool → Bool
same_flag true b = b
same_flag false b = not b

-- the functions are of one kind, and both block or neither does
abbrev pub same_function : KindFunction → KindFunction → Bool
same_function a b = (kind_number a.kind == kind_number b.kind) && same_flag a.nonblocking b.nonblocking

-- the two calls have one function and one root
abbrev pub alike : Entered → Entered → Bool
alike a b = same_function a.function b.function && same_root a.root b.root

-- the members of a communicator, in group order
abbrev pub group : List Communicator → ℕ → List ℕ
group comms c = unwrap_or (members_of comms c) []

-- the collective calls of one rank on a communicator, in their order
abbrev pub on_comm : ℕ → List Entered → List Entered
on_comm c entries = filter (λ e. e.comm == c) entries

-- those of each member
abbrev pub rows : List Ops → ℕ → List ℕ → List (List Entered)
rows ops c members = map (λ r. on_comm c (ops_of ops r).rounds) members

-- the k-th call of each member that has made so many
abbrev pub column : ℕ → List (List Entered) → List Entered
column k calls = filter_map (λ row. slice_get row k) calls

-- how a round of so many members stands, where these have entered it: the call e and others
abbrev pub standing : ℕ → Entered → List Entered → Standing
standing members e others =
    if not (list_all (alike e) others) then Mismatched
    else if length others + 1 == members then Complete e.function e.root
    else Partial e.function e.root (length others + 1) members

-- the k-th round, where some member has entered it
abbrev pub round_of : ℕ → ℕ → ℕ → List Entered → Option Round
round_of c members k [] = None
round_of c members k (e ∷ others) = Some (record { comm = c; k = k; standing = standing members e others })

-- the most calls of any row
abbrev pub depth : List (List Entered) → ℕ
depth [] = 0
depth (row ∷ calls) = max (length row) (depth calls)

-- the rounds of a communicator, by k
abbrev pub rounds_on : List Communicator → List Ops → ℕ → List Round
rounds_on comms ops c = let members = group comms c in let calls = rows ops c members in
    filter_map (λ k. round_of c (length members) k (column k calls)) (range_with_len 0 (depth calls))

-- the rounds of all communicators, by communicator and k
abbrev pub rounds_of : List Communicator → List Ops → List Round
rounds_of comms ops = flat_map (λ g. rounds_on comms ops g.comm) comms
