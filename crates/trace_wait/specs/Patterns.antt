-- The keys of the ordered sets in which things are looked up: what a receive names of a message, and rounds. No public
-- clause speaks of it.
use Rattle.std.specs.Prelude.{ℕ, Bool, true, false, ◌==◌, ◌&&◌, not, if◌then◌else◌, Option, Some, None, List, filter}
use Rattle.std.specs.declared.cmp.Ordering.{Ordering}
use Rattle.std.specs.Ordering.{nat_cmp, ordering_then}
use Rattle.std.specs.List.{list_any}
use Rattle.std.specs.Option.{option_cmp}
use Rattle.mpi_model.specs.Fit.{admits}
use Rattle.mpi_model.specs.Trusts.{is_void}
use Rattle.mpi_model.specs.declared.message.Message.{Message}
use Rattle.mpi_model.specs.declared.message.Receive.{Receive}
use Rattle.trace_pair.specs.declared.pair.Pair.{Pair}
use Rattle.trace_ops.specs.Ops.{Ops}
use Rattle.trace_wait.specs.Matching.{is_unpaired_message, unpaired_messages}

-- communicator, receiver, source and tag
abbrev pub Pattern : Type 0
Pattern = ℕ × ℕ × Option ℕ × Option ℕ

-- the order of the keys
abbrev pub pattern_cmp : Pattern → Pattern → Ordering
pattern_cmp a b = ordering_then (ordering_then (ordering_then (nat_cmp a.0 b.0) (nat_cmp a.1 b.1)) (option_cmp nat_cmp a.2 b.2)) (option_cmp nat_cmp a.3 b.3)

-- what the receive names
abbrev pub pattern_of : Receive → Pattern
pattern_of q = (q.comm, q.at, q.source, q.tag)

-- both name nothing, or the same
abbrev pub same_option : Option ℕ → Option ℕ → Bool
same_option None None = true
same_option None (Some b) = false
same_option (Some a) None = false
same_option (Some a) (Some b) = a == b

-- two patterns are one
abbrev pub same_pattern : Pattern → Pattern → Bool
same_pattern a b = (a.0 == b.0) && (a.1 == b.1) && same_option a.2 b.2 && same_option a.3 b.3

-- The message's envelope suits a receive that names this.
abbrev pub suits : Message → Pattern → Bool
suits m p = (m.comm == p.0) && (m.to == p.1) && admits p.2 m.from && admits p.3 m.tag

-- whether the message was cancelled, or whether it was not
abbrev pub is_void_or_not : Bool → Message → Bool
is_void_or_not void m = if void then is_void m.trust else not (is_void m.trust)

-- The message suits what is named; it was cancelled, or it was not.
abbrev pub offers : Bool → Message → Pattern → Bool
offers void m p = suits m p && is_void_or_not void m

-- The message is in no pair, and offers what is named.
abbrev pub offers_unpaired : Bool → List Pair → Message → Pattern → Bool
offers_unpaired void pairs m p = is_unpaired_message pairs m && offers void m p

-- one of these messages that are in no pair offers what is named
abbrev pub is_offered : Bool → List Pair → List Message → Pattern → Bool
is_offered void pairs sends p = list_any (λ m. offers void m p) (filter (is_unpaired_message pairs) sends)

-- one of the messages of all ranks that are in no pair offers what is named
abbrev pub some_offers : Bool → List Ops → List Pair → Pattern → Bool
some_offers void ops pairs p = list_any (λ m. offers void m p) (unpaired_messages ops pairs)

-- a round as a key: its communicator and its number
abbrev pub Place : Type 0
Place = ℕ × ℕ

-- places by rank, and then by call
abbrev pub place_cmp : Place → Place → Ordering
place_cmp a b = ordering_then (nat_cmp a.0 b.0) (nat_cmp a.1 b.1)
