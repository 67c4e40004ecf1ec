-- Events in parts, each of a segment's length but for the last.
use Rattle.std.specs.Prelude.{◌≡◌, ◌≤◌, ◌++◌, List, [], ◌∷◌, length}
use Rattle.mpi_model.specs.declared.event.Event.{Event}
use Rattle.trace_know.specs.declared.segment.TheConstants.{MOST_EVENTS}
use Rattle.dumpi_calls.specs.declared.parts.Parts.{Parts}

-- the events of full parts, one after another, and then those of the last
abbrev pub joined : List (List Event) → List Event → List Event
joined [] last = last
joined (part ∷ full) last = part ++ joined full last

-- all events that were kept, in order
abbrev pub events_in : Parts → List Event
events_in parts = joined parts.full.items parts.last

-- each has the events of a full segment
abbrev pub AreAllFull : List (List Event) → Type 0
AreAllFull [] = Unit {0}
AreAllFull (part ∷ full) = (length part ≡ MOST_EVENTS) × AreAllFull full

-- Parts of which each can be a segment, and only the last isn't full.
pub record AreParts (parts : Parts) : Type 0 where
  pub full : AreAllFull parts.full.items
  pub most : length parts.last ≤ MOST_EVENTS
