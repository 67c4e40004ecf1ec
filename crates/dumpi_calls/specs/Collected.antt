-- What the two sinks make of calls.
use Rattle.std.specs.Prelude.{◌≡◌, ◌<◌, ◌≤◌, ◌^◌, ℕ, ◌+◌, Bool, true, false, List, [], ◌∷◌, ◌++◌, length, Option, Some, None, if◌then◌else◌}
use Rattle.mpi_model.specs.Failures.{one_more}
use Rattle.mpi_model.specs.declared.event.Event.{Event}
use Rattle.mpi_model.specs.declared.event.Event.TheVariants.{Enter, Return}
use Rattle.mpi_model.specs.declared.event.Exit.{Exit}
use Rattle.trace_know.specs.Segment.{PlacedEvents, enter_place}
use Rattle.trace_know.specs.declared.segment.TheConstants.{MOST_EVENTS}
use Rattle.dumpi_calls.specs.Rows.{Callback, OnSend, OnIsend, OnRecv, OnIrecv, OnSendrecv, OnProbe, OnWait, OnWaitall, OnWaitany, OnWaitsome, OnTest, OnTestall, OnTestany, OnTestsome, OnCancel, OnRequestFree, OnCollective, OnIcollective, OnSendInit, OnRecvInit, OnStart, OnStartall, OnMprobe, OnImprobe, OnIprobe, OnImrecv, OnUnread, OnOther}
use Rattle.dumpi_calls.specs.Seen.{Seen}
use Rattle.dumpi_calls.specs.declared.parts.TheConstants.{MOST_CALLS}
use Rattle.dumpi_calls.specs.declared.tally.Tally.{Tally}

-- ---- events

-- the Return of a call, where it returned
abbrev pub exit_events : Option Exit → List Event
exit_events None = []
exit_events (Some exit) = Return exit.outs exit.stamp ∷ []

-- the events of a call: its Enter and, where it returned, its Return
abbrev pub events_of : Seen → List Event
events_of call = Enter call.call call.enter ∷ exit_events call.exit

-- whether the last event is an Enter, after events that left a call open or not
abbrev pub is_open_from : Bool → List Event → Bool
is_open_from is_open [] = is_open
is_open_from is_open (Enter call stamp ∷ events) = is_open_from true events
is_open_from is_open (Return outs stamp ∷ events) = is_open_from false events

-- whether events end in a call that has not returned
abbrev pub ends_open : List Event → Bool
ends_open events = is_open_from false events

-- The events with those of one call more. A call that comes after one that has not returned is left out: a text has
-- none.
abbrev pub collected : List Event → Seen → List Event
collected events call = if ends_open events then events else events ++ events_of call

-- ---- segments

-- events of a rank from the Enter of a call on
abbrev pub placed : ℕ → ℕ → List Event → PlacedEvents
placed rank first events = record { rank = rank; first_place = enter_place first; events = events }

-- the piece of events from the Enter of a call on, however many; none of no event
abbrev pub piece_of : ℕ → ℕ → List Event → Option PlacedEvents
piece_of rank first [] = None
piece_of rank first (event ∷ events) = Some (placed rank first (event ∷ events))

-- A part that is cut off: it has an event, and 65,536 of them where more follow.
pub record IsPart (part rest : List Event) : Type 0 where
  pub some : 0 < length part
  pub most : length part ≤ MOST_EVENTS
  pub full : 0 < length rest → length part ≡ MOST_EVENTS

-- The segments of events from the Enter of a call on, cut after each 65,536: that is, after 32,768 calls.
abbrev pub AreSegments : ℕ → ℕ → List Event → List PlacedEvents → Type 0
AreSegments rank first events [] = events ≡ []
AreSegments rank first events (segment ∷ segments) = (rest : List Event) × (events ≡ segment.events ++ rest) × IsPart segment.events rest
    × (segment ≡ placed rank first segment.events) × AreSegments rank (first + MOST_CALLS) rest segments

-- there are events, and the last has a place at 2^40 or past it
abbrev pub HasPlacesPast : ℕ → List Event → Type 0
HasPlacesPast first events = (0 < length events) × (2 ^ 40 < enter_place first + length events)

-- ---- counts

-- no call of any callback
abbrev pub none_tallied : Tally
none_tallied = record {
  on_send = 0;
  on_isend = 0;
  on_recv = 0;
  on_irecv = 0;
  on_sendrecv = 0;
  on_probe = 0;
  on_wait = 0;
  on_waitall = 0;
  on_waitany = 0;
  on_waitsome = 0;
  on_test = 0;
  on_testall = 0;
  on_testany = 0;
  on_testsome = 0;
  on_cancel = 0;
  on_request_free = 0;
  on_collective = 0;
  on_icollective = 0;
  on_send_init = 0;
  on_recv_init = 0;
  on_start = 0;
  on_startall = 0;
  on_mprobe = 0;
  on_improbe = 0;
  on_iprobe = 0;
  on_imrecv = 0;
  on_unread = 0;
  on_other = 0;
}

-- one call more of a callback
abbrev pub tallied : Tally → Callback → Tally
tallied t OnSend = record t { on_send = one_more t.on_send }
tallied t OnIsend = record t { on_isend = one_more t.on_isend }
tallied t OnRecv = record t { on_recv = one_more t.on_recv }
tallied t OnIrecv = record t { on_irecv = one_more t.on_irecv }
tallied t OnSendrecv = record t { on_sendrecv = one_more t.on_sendrecv }
tallied t OnProbe = record t { on_probe = one_more t.on_probe }
tallied t OnWait = record t { on_wait = one_more t.on_wait }
tallied t OnWaitall = record t { on_waitall = one_more t.on_waitall }
tallied t OnWaitany = record t { on_waitany = one_more t.on_waitany }
tallied t OnWaitsome = record t { on_waitsome = one_more t.on_waitsome }
tallied t OnTest = record t { on_test = one_more t.on_test }
tallied t OnTestall = record t { on_testall = one_more t.on_testall }
tallied t OnTestany = record t { on_testany = one_more t.on_testany }
tallied t OnTestsome = record t { on_testsome = one_more t.on_testsome }
tallied t OnCancel = record t { on_cancel = one_more t.on_cancel }
tallied t OnRequestFree = record t { on_request_free = one_more t.on_request_free }
tallied t OnCollective = record t { on_collective = one_more t.on_collective }
tallied t OnIcollective = record t { on_icollective = one_more t.on_icollective }
tallied t OnSendInit = record t { on_send_init = one_more t.on_send_init }
tallied t OnRecvInit = record t { on_recv_init = one_more t.on_recv_init }
tallied t OnStart = record t { on_start = one_more t.on_start }
tallied t OnStartall = record t { on_startall = one_more t.on_startall }
tallied t OnMprobe = record t { on_mprobe = one_more t.on_mprobe }
tallied t OnImprobe = record t { on_improbe = one_more t.on_improbe }
tallied t OnIprobe = record t { on_iprobe = one_more t.on_iprobe }
tallied t OnImrecv = record t { on_imrecv = one_more t.on_imrecv }
tallied t (OnUnread name) = record t { on_unread = one_more t.on_unread }
tallied t (OnOther name) = record t { on_other = one_more t.on_other }
