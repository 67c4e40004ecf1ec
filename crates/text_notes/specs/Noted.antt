-- What is noted of the calls of a text while it is read.
use Rattle.std.specs.Prelude.{◌≡◌, ◌+◌, ◌-◌, ◌^◌, ◌||◌, ℕ, Bool, true, false, List, [], ◌∷◌, codes, length, min, Option, Some, None, if◌then◌else◌}
use Rattle.std.specs.Str.{bytes_eq}
use Rattle.mpi_model.specs.declared.call.Call.{Call}
use Rattle.mpi_model.specs.declared.call.Call.TheVariants as variants
use Rattle.mpi_model.specs.declared.event.Event.{Event}
use Rattle.mpi_model.specs.declared.kind.Kind.{Kind}
use Rattle.mpi_model.specs.Failures.{one_more}
use Rattle.call_arguments.specs.Table.{is_compared}
use Rattle.dumpi_text.specs.Call.{TextCall}
use Rattle.dumpi_text.specs.Grammar.{Complete, text_meaning}
use Rattle.dumpi_text.specs.Skips.{IsFirstSkipped}
use Rattle.dumpi_text.specs.declared.step.Position.{Position}
use Rattle.dumpi_calls.specs.Collected.{collected}
use Rattle.dumpi_calls.specs.Rows.{Callback, OnCollective, OnIcollective, OnOther, OnUnread}
use Rattle.dumpi_calls.specs.Seen.{Seen, seen_in}
use Rattle.dumpi_calls.specs.Walks.{unfinished_line}
use Rattle.dumpi_calls.specs.declared.walking.Walked.{Walked}
use Rattle.text_notes.specs.Arguments.{kind_of}

-- a function of calls that aren't read: its name, the number of its first such call, and how many there are
pub record UnreadParts : Type 0 where
  pub name : List ℕ
  pub first : ℕ
  pub count : ℕ

-- counts stay at the greatest of 64 bits
abbrev pub sum_of : ℕ → ℕ → ℕ
sum_of one other = min (one + other) (2 ^ 64 - 1)

-- a function with so many calls more
abbrev pub with_count : ℕ → UnreadParts → UnreadParts
with_count count f = record f { count = sum_of f.count count }

-- so many calls more of a function, the first of them of this number; a function that isn't listed comes last
abbrev pub counted : ℕ → ℕ → List ℕ → List UnreadParts → List UnreadParts
counted number count name [] = record { name = name; first = number; count = count } ∷ []
counted number count name (f ∷ functions) =
    if bytes_eq f.name name then with_count count f ∷ functions else f ∷ counted number count name functions

-- one call more: calls that are read are not noted
abbrev pub with_call : ℕ → Callback → List UnreadParts → List UnreadParts
with_call number (OnUnread name) functions = counted number 1 name functions
with_call number _ functions = functions

-- the functions of the calls that aren't read, in the order of their first such calls; calls have numbers from this one
-- on
abbrev pub unread_from : ℕ → List UnreadParts → List Seen → List UnreadParts
unread_from number functions [] = functions
unread_from number functions (call ∷ calls) = unread_from (one_more number) (with_call number call.callback functions) calls

-- the functions of the calls of a text that aren't read; its calls have numbers from 0 on
abbrev pub unread_in : List Seen → List UnreadParts
unread_in calls = unread_from 0 [] calls

-- ---- for what a text is looked at a second time

-- a call that is local: no other rank can have to do with it
abbrev pub is_local : Call → Bool
is_local variants.Local = true
is_local _ = false

-- something of these calls is compared with those of other ranks
abbrev pub is_some_compared : Option Kind → Bool
is_some_compared (Some kind) = is_compared kind
is_some_compared None = false

-- For what a text is looked at a second time: the functions of its local calls, in the order of their first such calls;
-- the number of its last call of MPI_Comm_size; and whether collective calls have arguments that are compared.
pub record LookNeeds : Type 0 where
  pub local : List UnreadParts
  pub last_size : Option ℕ
  pub compares : Bool

-- for nothing
abbrev pub needs_nothing : LookNeeds
needs_nothing = record { local = []; last_size = None; compares = false }

-- the number of the last call of MPI_Comm_size, with a call of this name more
abbrev pub last_size_with : ℕ → List ℕ → Option ℕ → Option ℕ
last_size_with number name last_size = if bytes_eq name (codes "MPI_Comm_size") then Some number else last_size

-- one local call more of a function
abbrev pub with_local_call : ℕ → List ℕ → LookNeeds → LookNeeds
with_local_call number name needs = record {
  local = counted number 1 name needs.local;
  last_size = last_size_with number name needs.last_size;
  compares = needs.compares;
}

-- one collective call more
abbrev pub with_collective : Call → LookNeeds → LookNeeds
with_collective call needs = record { local = needs.local; last_size = needs.last_size; compares = needs.compares || is_some_compared (kind_of call) }

-- one call more, by its callback
abbrev pub with_needs : ℕ → Callback → Call → LookNeeds → LookNeeds
with_needs number (OnOther name) call needs = if is_local call then with_local_call number name needs else needs
with_needs number OnCollective call needs = with_collective call needs
with_needs number OnIcollective call needs = with_collective call needs
with_needs number _ call needs = needs

-- the same of calls with numbers from one on
abbrev pub needs_from : ℕ → LookNeeds → List Seen → LookNeeds
needs_from number needs [] = needs
needs_from number needs (call ∷ calls) = needs_from (one_more number) (with_needs number call.callback call.call needs) calls

-- for what the text of these calls is looked at
abbrev pub needs_in : List Seen → LookNeeds
needs_in calls = needs_from 0 needs_nothing calls

-- ---- while calls are noted

-- What is noted of calls: the functions of those that aren't read, and for what they are looked at once more.
pub record CallNotesParts : Type 0 where
  pub unread : List UnreadParts
  pub needs : LookNeeds

-- What is kept of calls: their events, how many there were, the functions of those that aren't read, and for what they
-- are looked at once more.
pub record Noted : Type 0 where
  pub events : List Event
  pub calls : ℕ
  pub unread : List UnreadParts
  pub needs : LookNeeds

-- what is noted in front of a text
abbrev pub nothing_noted : Noted
nothing_noted = record { events = []; calls = 0; unread = []; needs = needs_nothing }

-- one call more
abbrev pub noted : Noted → Seen → Noted
noted n call = record {
  events = collected n.events call;
  calls = one_more n.calls;
  unread = with_call n.calls call.callback n.unread;
  needs = with_needs n.calls call.callback call.call n.needs;
}

-- These are the functions of the text's calls that aren't read, so many calls has it, so many nonblank lines were
-- skipped, this one first, and its last call begins at this line, where it has not returned.
pub record AreNotes (text : List ℕ) (unread : List UnreadParts) (walked : Walked) : Type 0 where
  pub calls : List TextCall
  pub seen : List Seen
  pub at : Position
  pub whole : text_meaning text ≡ record { calls = calls; end = Complete at }
  pub typed_as : seen_in calls ≡ Some seen
  pub unread_is : unread ≡ unread_in seen
  pub counted_is : walked.calls ≡ length calls
  pub skipped_is : walked.skipped ≡ at.skipped
  pub first_skipped_is : IsFirstSkipped (Some text) walked.first_skipped
  pub unfinished_is : walked.unfinished ≡ unfinished_line calls

-- the same, where the text's bytes are told
abbrev pub TellsNotes : Option (List ℕ) → List UnreadParts → Walked → Type 0
TellsNotes None unread walked = Unit {0}
TellsNotes (Some text) unread walked = AreNotes text unread walked

-- For this the text is looked at a second time.
pub record AreNeeds (text : List ℕ) (needs : LookNeeds) : Type 0 where
  pub calls : List TextCall
  pub seen : List Seen
  pub at : Position
  pub whole : text_meaning text ≡ record { calls = calls; end = Complete at }
  pub typed_as : seen_in calls ≡ Some seen
  pub needs_are : needs ≡ needs_in seen

-- the same, where the text's bytes are told
abbrev pub TellsNeeds : Option (List ℕ) → LookNeeds → Type 0
TellsNeeds None needs = Unit {0}
TellsNeeds (Some text) needs = AreNeeds text needs
