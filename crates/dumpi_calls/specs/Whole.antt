-- What a walk over a whole text gives, and what segments of its events tell.
use Rattle.std.specs.Prelude.{◌≡◌, ℕ, List, [], ◌∷◌, Option, Some, None, IsSome}
use Rattle.std.specs.List.{flat_map}
use Rattle.mpi_model.specs.declared.event.Event.{Event}
use Rattle.dumpi_text.specs.Call.{TextCall}
use Rattle.dumpi_text.specs.Grammar.{Complete, Ending, text_meaning}
use Rattle.dumpi_text.specs.declared.step.Position.{Position}
use Rattle.trace_know.specs.Segment.{PlacedEvents, enter_place}
use Rattle.trace_know.specs.Trace.{facts_from, facts_of}
use Rattle.dumpi_calls.specs.Collected.{AreSegments, collected, events_of}
use Rattle.dumpi_calls.specs.Seen.{Seen, after, seen_in}
use Rattle.dumpi_calls.specs.Walks.{IsWalked}
use Rattle.dumpi_calls.specs.declared.walking.Walked.{Walked}

-- every call but the last has returned
abbrev pub HaveExits : List Seen → Type 0
HaveExits [] = Unit {0}
HaveExits (call ∷ []) = Unit {0}
HaveExits (call ∷ next ∷ calls) = IsSome call.exit × HaveExits (next ∷ calls)

-- Of the calls of a text a sink is told one that has not returned only as the last.
abbrev pub TellsOpenLast : Type 0
TellsOpenLast = (text : List ℕ) (calls : List TextCall) (end : Ending) (seen : List Seen)
    → text_meaning text ≡ record { calls = calls; end = end } → seen_in calls ≡ Some seen → HaveExits seen

-- From the calls of a text nothing is left out.
abbrev pub CollectsAll : Type 0
CollectsAll = (text : List ℕ) (calls : List TextCall) (end : Ending) (seen : List Seen)
    → text_meaning text ≡ record { calls = calls; end = end } → seen_in calls ≡ Some seen → after collected [] seen ≡ flat_map events_of seen

-- The events of a whole text: those of all its calls, in their order.
pub record AreEvents (text : List ℕ) (events : List Event) : Type 0 where
  pub calls : List TextCall
  pub seen : List Seen
  pub at : Position
  pub whole : text_meaning text ≡ record { calls = calls; end = Complete at }
  pub typed_as : seen_in calls ≡ Some seen
  pub events_are : events ≡ flat_map events_of seen

-- the events that a text tells, where its bytes are told
abbrev pub TellsEvents : Option (List ℕ) → List Event → Type 0
TellsEvents None events = Unit {0}
TellsEvents (Some text) events = AreEvents text events

-- A walk over a whole text leaves in a `Collect` that was empty the events of all the text's calls.
abbrev pub WalkTellsEvents : Type 0
WalkTellsEvents = (text : Option (List ℕ)) (events : List Event) (walked : Walked) → IsWalked collected text [] events walked → TellsEvents text events

-- The segments of events stand for the facts of these events, from the Enter of the first call on.
abbrev pub SegmentsTellAll : Type 0
SegmentsTellAll = (rank first : ℕ) (events : List Event) (segments : List PlacedEvents)
    → AreSegments rank first events segments → flat_map facts_of segments ≡ facts_from rank (enter_place first) events
