-- The pairs and the postponed messages of all ranks' ops.
use Rattle.std.specs.Ordering.{int_eq}
use Rattle.std.specs.Prelude.{ℕ, Bool, ◌&&◌, ◌==◌, not, cond, nat_lt, Option, Some, None, is_none, List, replicate, ◌++◌, []}
use Rattle.std.specs.List.{flat_map, filter_map, list_any, find, cons_option}
use Rattle.std.specs.Option.{option_map}
use Rattle.mpi_model.specs.declared.event.OpName.{OpName}
use Rattle.mpi_model.specs.declared.message.Message.{Message}
use Rattle.mpi_model.specs.declared.message.Receive.{Receive}
use Rattle.mpi_model.specs.Fit.{fits}
use Rattle.mpi_model.specs.Trusts.{is_open}
use Rattle.trace_ops.specs.Ops.{Ops, no_ops}
use Rattle.trace_pair.specs.After.{comes_after}
use Rattle.trace_pair.specs.Pairing.{After, receive_of}
use Rattle.trace_pair.specs.declared.pair.Pair.{Pair}

-- the sends of all ranks, one rank after another
abbrev pub sends_of : List Ops → List Message
sends_of held = flat_map (λ o. o.sends) held

-- the receives of all ranks
abbrev pub receives_of : List Ops → List Receive
receives_of held = flat_map (λ o. o.receives) held

-- More elements are sent than the receive takes, at one datatype. What differs in the datatype isn't compared.
abbrev pub is_over : Message → Receive → Bool
is_over m q = int_eq m.datatype q.datatype && nat_lt q.count m.count

-- the names of a pair
abbrev pub pair_of : Message → Receive → Pair
pair_of m q = record { message = m.name; receive = q.name; over = is_over m q }

-- the pairs, in order of the message
abbrev pub pairs_of : After → List Message → List Receive → List Pair
pairs_of after ms qs = filter_map (λ m. option_map (pair_of m) (receive_of after ms qs m)) ms

-- An open receive fits the message, which doesn't come after it.
abbrev pub fits_open : After → List Receive → Message → Bool
fits_open after qs m = list_any (λ u. is_open u && fits m u && not (after m u)) qs

-- postponed: in no pair, though an open receive may have taken it, wherever that stands in its rank
abbrev pub is_postponed : After → List Message → List Receive → Message → Bool
is_postponed after ms qs m = is_none (receive_of after ms qs m) && fits_open after qs m

-- its name, if it is postponed
abbrev pub postponed_name : After → List Message → List Receive → Message → Option OpName
postponed_name after ms qs m = cond (is_postponed after ms qs m) (Some m.name) None

-- the postponed messages, in their order
abbrev pub postponed_of : After → List Message → List Receive → List OpName
postponed_of after ms qs = filter_map (postponed_name after ms qs) ms

-- the pairs, and that of the message, if it is in one
abbrev pub with_pair : After → List Message → List Receive → Message → List Pair → List Pair
with_pair after ms qs m pairs = pairs ++ cons_option (option_map (pair_of m) (receive_of after ms qs m)) []

-- the postponed messages, and this one, if it is postponed
abbrev pub with_postponed : After → List Message → List Receive → Message → List OpName → List OpName
with_postponed after ms qs m names = names ++ cons_option (postponed_name after ms qs m) []

-- what a table shows
pub record Table : Type 0 where
  pub pairs : List Pair
  pub postponed : List OpName

-- the table of these messages and receives
abbrev pub table_with : After → List Message → List Receive → Table
table_with after ms qs = record { pairs = pairs_of after ms qs; postponed = postponed_of after ms qs }

-- the table of all ranks' ops
abbrev pub table_of : List Ops → Table
table_of held = table_with (comes_after held) (sends_of held) (receives_of held)

-- two names are one
abbrev pub same_name : OpName → OpName → Bool
same_name a b = (a.rank == b.rank) && ((a.call == b.call) && (a.part == b.part))

-- the receive that takes the message of that name
abbrev pub taken_by : List Pair → OpName → Option OpName
taken_by pairs name = option_map (λ p. p.receive) (find (λ p. same_name p.message name) pairs)

-- the message that the receive of that name takes
abbrev pub given_by : List Pair → OpName → Option OpName
given_by pairs name = option_map (λ p. p.message) (find (λ p. same_name p.receive name) pairs)

-- that many ranks without calls
abbrev pub fresh : ℕ → List Ops
fresh ranks = replicate ranks no_ops
