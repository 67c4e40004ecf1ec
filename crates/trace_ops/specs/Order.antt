-- The order in which a rank starts its sends and posts its receives (MPI 4.0, 3.5, 3.7.4 and 3.9).
use Rattle.std.specs.Prelude.{◌≡◌, Bool, true, ◌&&◌, ◌||◌, ◌==◌, nat_lt, List, [], ◌∷◌, ◌⊎◌}
use Rattle.mpi_model.specs.declared.event.OpName.{OpName}
use Rattle.mpi_model.specs.declared.message.Message.{Message}
use Rattle.mpi_model.specs.declared.message.Receive.{Receive}
use Rattle.trace_ops.specs.declared.entered.Entered.{Entered}

-- is an element, by cases
abbrev pub Has : {X : Type 0} → List X → X → Type 0
Has [] x = ⊥
Has (y ∷ ys) x = (x ≡ y) ⊎ Has ys x

-- A message that the same sender sent by an earlier call. The parts of one Startall start in any order, so that none of
-- them is earlier than another.
abbrev pub sent_before : Message → Message → Bool
sent_before a b = (a.from == b.from) && nat_lt a.name.call b.name.call

-- a receive that the same rank posted by an earlier call
abbrev pub posted_before : Receive → Receive → Bool
posted_before a b = (a.at == b.at) && nat_lt a.name.call b.name.call

-- A name of an earlier call, or of an earlier part of the same one: so the names of a rank stand in lists.
abbrev pub named_before : OpName → OpName → Bool
named_before a b = nat_lt a.call b.call || ((a.call == b.call) && nat_lt a.part b.part)

-- the message stands before the other in the list of their sender
abbrev pub sent_ahead : Message → Message → Bool
sent_ahead a b = (a.from == b.from) && named_before a.name b.name

-- the receive stands before the other in the list of their rank
abbrev pub posted_ahead : Receive → Receive → Bool
posted_ahead a b = (a.at == b.at) && named_before a.name b.name

-- each message stands before those that follow, of one rank
abbrev pub AreInOrder : List Message → Type 0
AreInOrder [] = Unit {0}
AreInOrder (m ∷ ms) = ((n : Message) → Has ms n → sent_ahead m n ≡ true) × AreInOrder ms

-- each receive stands before those that follow, of one rank
abbrev pub ArePosted : List Receive → Type 0
ArePosted [] = Unit {0}
ArePosted (q ∷ qs) = ((r : Receive) → Has qs r → posted_ahead q r ≡ true) × ArePosted qs

-- the name stands before the other in a list of names of their rank
abbrev pub called_ahead : OpName → OpName → Bool
called_ahead a b = (a.rank == b.rank) && named_before a b

-- each name stands before those that follow, of one rank
abbrev pub AreCalledInOrder : List OpName → Type 0
AreCalledInOrder [] = Unit {0}
AreCalledInOrder (a ∷ names) = ((b : OpName) → Has names b → called_ahead a b ≡ true) × AreCalledInOrder names

-- each collective call is entered before those that follow
abbrev pub AreEntered : List Entered → Type 0
AreEntered [] = Unit {0}
AreEntered (x ∷ xs) = ((y : Entered) → Has xs y → nat_lt x.call y.call ≡ true) × AreEntered xs
