-- What a collective call waits for, by the round that it entered (MPI 4.0, 6.1 and 6.12).
use Rattle.std.specs.Prelude.{ℕ, zero, suc, Bool, true, false, ◌==◌, ◌&&◌, not, nat_lt, Option, Some, None, List, [], ◌∷◌, filter, map, slice_get, count_by, if◌then◌else◌}
use Rattle.std.specs.List.{list_any, find}
use Rattle.std.specs.Option.{option_and_then, option_map}
use Rattle.mpi_model.specs.declared.layout.Sends.{Sends}
use Rattle.mpi_model.specs.declared.layout.Sends.TheVariants as sends
use Rattle.mpi_model.specs.declared.kind.Category.{Category}
use Rattle.mpi_model.specs.declared.kind.Category.TheVariants.{AllToAll, OneToAll, AllToOne, Scan}
use Rattle.mpi_model.specs.declared.kind.Kind.{Kind}
use Rattle.mpi_model.specs.Kinds.{row}
use Rattle.trace_stuck.specs.Shape as waits
use Rattle.trace_stuck.specs.Shape.{OnNothing, OnRank, OnAll, OnMismatched, waits_of}
use Rattle.trace_stuck.specs.declared.condition.RoundName.{RoundName}
use Rattle.trace_ops.specs.declared.entered.Entered.{Entered}
use Rattle.trace_wait.specs.declared.round.Round.{Round}
use Rattle.trace_wait.specs.declared.round.Standing.{Standing}
use Rattle.trace_wait.specs.declared.round.Standing.TheVariants.{Mismatched, Complete, Partial}
use Rattle.trace_ops.specs.Ops.{Ops}
use Rattle.trace_wait.specs.Ranks.{ops_of}
use Rattle.trace_ops.specs.Round.{is_barrier_kind}
use Rattle.trace_wait.specs.Parts.{Run, members, peers_on}

-- the rank has entered round k of communicator c
abbrev pub has_entered : Run → ℕ → ℕ → ℕ → Bool
has_entered s c k r = nat_lt k (count_by (λ e. e.comm == c) (ops_of s.ops r).rounds)

-- those of these members that have not entered the round
abbrev pub missing : Run → ℕ → ℕ → List ℕ → List ℕ
missing s c k members = filter (λ r. not (has_entered s c k r)) members

-- all of those
abbrev pub absent_of : Run → ℕ → ℕ → List ℕ → waits.Wait
absent_of s c k members = OnAll (waits_of (map OnRank (missing s c k members)))

-- all members that have not entered
abbrev pub absent : Run → ℕ → ℕ → waits.Wait
absent s c k = absent_of s c k (members s c)

-- the members of lower ranks in the group: those that stand before this one
abbrev pub lower : List ℕ → ℕ → List ℕ
lower [] r = []
lower (m ∷ members) r = if m == r then [] else m ∷ lower members r

-- under `wait` the absent members; under `buffer` nothing
abbrev pub other_side : Run → ℕ → ℕ → waits.Wait
other_side s c k = by s.layout.sends
  where
    by : Sends → waits.Wait
    by sends.Wait = absent s c k
    by sends.Buffer = OnNothing

-- In a scan each member takes what those of lower ranks give. Under `wait` the absent members; under `buffer` those of
-- lower ranks alone.
abbrev pub scanned : Run → ℕ → ℕ → ℕ → waits.Wait
scanned s r c k = by s.layout.sends
  where
    by : Sends → waits.Wait
    by sends.Wait = absent s c k
    by sends.Buffer = absent_of s c k (lower (members s c) r)

-- the root, where it has not entered
abbrev pub root_first : Run → ℕ → ℕ → ℕ → waits.Wait
root_first s c k root = if has_entered s c k root then OnNothing else OnRank root

-- the root of the round, as a trace rank
abbrev pub root_rank : Run → Entered → Option ℕ
root_rank s e = option_and_then (slice_get (members s e.comm)) e.root

-- functions or roots differ
abbrev pub is_mismatch : Standing → Bool
is_mismatch Mismatched = true
is_mismatch (Complete function root) = false
is_mismatch (Partial function root entered all) = false

-- this round is round k of communicator c, and is mismatched
abbrev pub is_mismatched_at : ℕ → ℕ → Round → Bool
is_mismatched_at c k r = (r.comm == c) && (r.k == k) && is_mismatch r.standing

-- Round k of communicator c is mismatched, among these.
abbrev pub is_mismatched_in : List Round → ℕ → ℕ → Bool
is_mismatched_in rounds c k = list_any (is_mismatched_at c k) rounds

-- the first of the mismatched rounds of communicator c in a row that end with round k
abbrev pub first_in_row : List Round → ℕ → ℕ → ℕ
first_in_row rounds c zero = zero
first_in_row rounds c (suc k) = if is_mismatched_in rounds c k then first_in_row rounds c k else suc k

-- Round k of communicator c is mismatched.
abbrev pub is_mismatched : Run → ℕ → ℕ → Bool
is_mismatched s c k = is_mismatched_in s.rounds c k

-- What a call in a mismatched round waits for: nothing that is sure, since MPI forbids such calls. The row of
-- mismatched rounds began where the calls first differed, and goes on since one member is a call behind the others.
abbrev pub mismatched_part : Run → ℕ → ℕ → waits.Wait
mismatched_part s c k = OnMismatched (record { object = c; k = first_in_row s.rounds c k })

-- from the root: the root, and the others
abbrev pub from_root : Run → ℕ → Entered → ℕ → waits.Wait
from_root s r e k = by (root_rank s e)
  where
    by : Option ℕ → waits.Wait
    by None = OnNothing
    by (Some root) = if root == r then other_side s e.comm k else root_first s e.comm k root

-- to the root: the root, and the others
abbrev pub to_root : Run → ℕ → Entered → ℕ → waits.Wait
to_root s r e k = by (root_rank s e)
  where
    by : Option ℕ → waits.Wait
    by None = OnNothing
    by (Some root) = if root == r then absent s e.comm k else other_side s e.comm k

-- what a call waits for, by the category of its kind (MPI 4.0, 6.2.2)
abbrev pub by_category : Run → ℕ → Entered → ℕ → waits.Wait
by_category s r e k = of (row e.function.kind).category
  where
    of : Category → waits.Wait
    of AllToAll = absent s e.comm k
    of OneToAll = from_root s r e k
    of AllToOne = to_root s r e k
    of Scan = scanned s r e.comm k

-- The others may owe a rank nothing in a call of this kind, since each rank has a count of its own, which may be 0, or
-- since the standard promises of no rank that it waits for the others. So where sends are buffered, it may go on.
abbrev pub may_be_owed_nothing : Sends → Kind → Bool
may_be_owed_nothing sends.Wait kind = false
may_be_owed_nothing sends.Buffer kind = (row kind).may_be_owed_nothing

-- The peers that have not entered, where the call is a barrier.
abbrev pub peers_first : Run → ℕ → Entered → ℕ → waits.Wait
peers_first s r e k = if is_barrier_kind e.function.kind then absent_of s e.comm k (peers_on s e.comm r) else OnNothing

-- What a call on an intercommunicator waits for. Under `wait` the absent members of both groups; under `buffer` a
-- barrier waits for the other group (MPI 4.0, 6.3), and any other call for nothing.
abbrev pub across : Run → ℕ → Entered → ℕ → waits.Wait
across s r e k = by s.layout.sends
  where
    by : Sends → waits.Wait
    by sends.Wait = absent s e.comm k
    by sends.Buffer = peers_first s r e k

-- what a call within one group waits for, which is nothing where the rank may be owed nothing
abbrev pub within : Run → ℕ → Entered → ℕ → waits.Wait
within s r e k = if may_be_owed_nothing s.layout.sends e.function.kind then OnNothing else by_category s r e k

-- what a call waits for whose round isn't mismatched
abbrev pub by_kind : Run → ℕ → Entered → ℕ → waits.Wait
by_kind s r e k = if e.inter then across s r e k else within s r e k

-- the number of the round that a call of the rank entered: so many calls of it on the communicator came before
abbrev pub round_number : Ops → Entered → ℕ
round_number o e = count_by (λ d. (d.comm == e.comm) && nat_lt d.call e.call) o.rounds

-- the round that call n of the rank entered, where it is collective and not foreign
abbrev pub round_of_call : Ops → ℕ → Option RoundName
round_of_call o n = option_map (λ e. record { object = e.comm; k = round_number o e }) (find (λ e. e.call == n) o.rounds)

-- what a call waits for by its round
abbrev pub round_part : Run → ℕ → Entered → ℕ → waits.Wait
round_part s r e k = if is_mismatched s e.comm k then mismatched_part s e.comm k else by_kind s r e k

-- Call n of the rank, where it is collective, or the request that it posted. None was entered where it is local.
abbrev pub collective_of_call : Run → ℕ → Ops → ℕ → waits.Wait
collective_of_call s r o n = part (find (λ e. e.call == n) o.rounds)
  where
    part : Option Entered → waits.Wait
    part (Some e) = round_part s r e (round_number o e)
    part None = OnNothing
