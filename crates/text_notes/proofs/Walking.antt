-- A walk that notes calls.
use Rattle.std.proofs.Common.{◌≡◌, ◌∙◌, ◌+◌, [], ◌∷◌, ℕ, zero, suc, Bool, true, false, cond, eqb, List, length, IfSome, Option, Some, None, refl, sym, ap, arith}
use Rattle.std.proofs.lemmas.Bool.{eqb-true}
use Rattle.mpi_model.specs.Times.{Times}
use Rattle.mpi_model.specs.declared.event.Event.{Event}
use Rattle.dumpi_text.specs.Call.{TextCall}
use Rattle.dumpi_text.specs.Grammar.{Meaning}
use Rattle.dumpi_calls.specs.Collected.{collected}
use Rattle.dumpi_calls.specs.Seen.{Seen, after}
use Rattle.dumpi_calls.specs.Walks.{HandedOn, IsStopped, IsWalked, unfinished_line, unless_returned}
use Rattle.dumpi_calls.specs.declared.collect.Memory.{Memory}
use Rattle.dumpi_calls.specs.declared.fault.WalkFault.{WalkFault}
use Rattle.dumpi_calls.specs.declared.walking.Walked.{Walked}
use Rattle.text_notes.specs.Lines.{IsLineOf, line_in}
use Rattle.text_notes.specs.Noted.{Noted, TellsNeeds, TellsNotes, needs_from, noted, nothing_noted, unread_from}
use Rattle.text_notes.specs.Whole.{TellsLine}
use Rattle.text_notes.specs.Words.{NoteParts, walked_in}

-- the events of calls that are noted
events_after : (state : Noted) (calls : List Seen) → (after noted state calls).events ≡ after collected state.events calls
events_after state [] = refl
events_after state (call ∷ calls) = events_after (noted state call) calls

-- and the functions of those that aren't read
unread_after : (state : Noted) (calls : List Seen) → (after noted state calls).unread ≡ unread_from state.calls state.unread calls
unread_after state [] = refl
unread_after state (call ∷ calls) = unread_after (noted state call) calls

-- and for what they are looked at once more
needs_after : (state : Noted) (calls : List Seen) → (after noted state calls).needs ≡ needs_from state.calls state.needs calls
needs_after state [] = refl
needs_after state (call ∷ calls) = needs_after (noted state call) calls

handed : (calls : List TextCall) (new : Noted) (count : ℕ) → HandedOn noted calls nothing_noted new count → HandedOn collected calls [] new.events count
handed calls new count h = record {
  seen = h.seen;
  typed_as = h.typed_as;
  state = ap (λ (n : Noted). n.events) h.state ∙ events_after nothing_noted h.seen;
  counted = h.counted;
}

pub collects_noted : (text : Option (List ℕ)) (new : Noted) (walked : Walked) → IsWalked noted text nothing_noted new walked → IsWalked collected text [] new.events walked
collects_noted text new walked w = record {
  calls = w.calls;
  at = w.at;
  means = w.means;
  handed = handed w.calls new walked.calls w.handed;
  skipped = w.skipped;
  first_skipped = w.first_skipped;
  unfinished = w.unfinished;
}

pub stops_noted : (text : Option (List ℕ)) (new : Noted) (fault : WalkFault Memory)
    → IsStopped {S = Noted} {F = Memory} noted text nothing_noted new fault → IsStopped {S = List Event} {F = Memory} collected text [] new.events fault
stops_noted text new fault s = record { calls = s.calls; handed = handed s.calls new fault.calls s.handed; stops = s.stops }

pub tells_noted : (text : Option (List ℕ)) (new : Noted) (walked : Walked) → IsWalked noted text nothing_noted new walked → TellsNotes text new.unread walked
tells_noted None new walked w = tt
tells_noted (Some text) new walked w = record {
  calls = w.calls;
  seen = w.handed.seen;
  at = w.at;
  whole = w.means;
  typed_as = w.handed.typed_as;
  unread_is = ap (λ (n : Noted). n.unread) w.handed.state ∙ unread_after nothing_noted w.handed.seen;
  counted_is = w.handed.counted;
  skipped_is = w.skipped;
  first_skipped_is = w.first_skipped;
  unfinished_is = w.unfinished;
}

pub tells_needed : (text : Option (List ℕ)) (new : Noted) (walked : Walked) → IsWalked noted text nothing_noted new walked → TellsNeeds text new.needs
tells_needed None new walked w = tt
tells_needed (Some text) new walked w = record {
  calls = w.calls;
  seen = w.handed.seen;
  at = w.at;
  whole = w.means;
  typed_as = w.handed.typed_as;
  needs_are = ap (λ (n : Noted). n.needs) w.handed.state ∙ needs_after nothing_noted w.handed.seen;
}

-- ---- the line of the last call

open_there : (exit : Option Times) (at line : ℕ) → unless_returned exit at ≡ Some line → Some line ≡ Some at
open_there None at line e = sym e
open_there (Some stamp) at line e = cc

line_of_last : (calls : List TextCall) (number line : ℕ) → number + 1 ≡ length calls → unfinished_line calls ≡ Some line → Some line ≡ line_in calls number
line_of_last [] number line n e = cc
line_of_last (call ∷ []) zero line n e = open_there call.exit call.line line e
line_of_last (call ∷ []) (suc number) line n e = absurd (omega arith)
line_of_last (call ∷ other ∷ calls) zero line n e = absurd (omega arith)
line_of_last (call ∷ other ∷ calls) (suc number) line n e = line_of_last (other ∷ calls) number line (omega arith) e

line_told : (text : Option (List ℕ)) (note : NoteParts) (number line : ℕ) → TellsNotes text note.unread (walked_in note) → number + 1 ≡ note.calls → note.unfinished ≡ Some line → IsLineOf text number (Some line)
line_told None note number line told n e = tt
line_told (Some text) note number line told n e =
    line_of_last told.calls number line (n ∙ told.counted_is) (sym told.unfinished_is ∙ e) ∙ sym (ap (λ (m : Meaning). line_in m.calls number) told.whole)

by_test : (text : Option (List ℕ)) (note : NoteParts) (number : ℕ) (b : Bool) (unfinished : Option ℕ) → TellsNotes text note.unread (walked_in note) → eqb (number + 1) note.calls ≡ b → note.unfinished ≡ unfinished
    → IfSome (cond b unfinished None) (λ line. IsLineOf text number (Some line))
by_test text note number false unfinished told e u = tt
by_test text note number true None told e u = tt
by_test text note number true (Some line) told e u = line_told text note number line told (eqb-true (number + 1) note.calls e) u

pub tells_line : TellsLine
tells_line text note number told = by_test text note number (eqb (number + 1) note.calls) note.unfinished told refl refl
