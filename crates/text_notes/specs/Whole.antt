-- What a walk that notes calls leaves.
use Rattle.std.specs.Prelude.{ℕ, List, [], IfSome, Option, Some}
use Rattle.dumpi_calls.specs.Collected.{collected}
use Rattle.dumpi_calls.specs.Walks.{IsStopped, IsWalked}
use Rattle.dumpi_calls.specs.declared.collect.Memory.{Memory}
use Rattle.dumpi_calls.specs.declared.fault.WalkFault.{WalkFault}
use Rattle.dumpi_calls.specs.declared.walking.Walked.{Walked}
use Rattle.mpi_model.specs.declared.event.Event.{Event}
use Rattle.text_notes.specs.Lines.{IsLineOf}
use Rattle.text_notes.specs.Noted.{Noted, TellsNeeds, TellsNotes, noted, nothing_noted}
use Rattle.text_notes.specs.Words.{NoteParts, line_in_note, walked_in}

-- It keeps the events that a walk into a `Collect` keeps.
abbrev pub CollectsNoted : Type 0
CollectsNoted = (text : Option (List ℕ)) (new : Noted) (walked : Walked) → IsWalked noted text nothing_noted new walked → IsWalked collected text [] new.events walked

-- It stops where that does.
abbrev pub StopsNoted : Type 0
StopsNoted = (text : Option (List ℕ)) (new : Noted) (fault : WalkFault Memory)
    → IsStopped {S = Noted} {F = Memory} noted text nothing_noted new fault → IsStopped {S = List Event} {F = Memory} collected text [] new.events fault

-- Over a whole text it notes what that tells.
abbrev pub TellsNoted : Type 0
TellsNoted = (text : Option (List ℕ)) (new : Noted) (walked : Walked) → IsWalked noted text nothing_noted new walked → TellsNotes text new.unread walked

-- And it notes for what that is looked at a second time.
abbrev pub TellsNeeded : Type 0
TellsNeeded = (text : Option (List ℕ)) (new : Noted) (walked : Walked) → IsWalked noted text nothing_noted new walked → TellsNeeds text new.needs

-- The line that a note tells of a call is the one where it begins.
abbrev pub TellsLine : Type 0
TellsLine = (text : Option (List ℕ)) (note : NoteParts) (number : ℕ) → TellsNotes text note.unread (walked_in note) → IfSome (line_in_note number note) (λ line. IsLineOf text number (Some line))
