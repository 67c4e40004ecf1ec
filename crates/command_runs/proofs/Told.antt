-- What holds of a reader's text holds of the file where it is told.
use Rattle.std.proofs.Common.{◌≡◌, ◌∙◌, ℕ, List, [], ◌∷◌, Option, Some, None, IsSome, ap, sym, subst, refl}
use Rattle.std.specs.Io.KnownBytes.{prepend_known}
use Rattle.mpi_model.specs.declared.event.Event.{Event}
use Rattle.dumpi_text.specs.declared.fault.TextCause.{TextCause}
use Rattle.dumpi_text.specs.declared.fault.TextCause.TheVariants as reads
use Rattle.dumpi_text.specs.declared.fault.TextFault.TheVariants.{At}
use Rattle.trace_know.specs.Segment.{PlacedEvents, enter_place}
use Rattle.dumpi_calls.specs.Collected.{AreSegments, HasPlacesPast, collected, piece_of}
use Rattle.dumpi_calls.specs.Seen.{Seen, seen_in}
use Rattle.dumpi_calls.specs.Walks.{FailsAfter, FailsIn, IsReadStop, IsStopped, IsWalked, StopsWalk}
use Rattle.dumpi_calls.specs.Whole.{SegmentsTellAll, TellsEvents, WalkTellsEvents}
use Rattle.dumpi_calls.specs.declared.collect.Memory.{Memory as NoMemory}
use Rattle.dumpi_calls.specs.declared.fault.WalkCause.{WalkCause}
use Rattle.dumpi_calls.specs.declared.fault.WalkCause.TheVariants as causes
use Rattle.dumpi_calls.specs.declared.fault.WalkFault.{WalkFault}
use Rattle.dumpi_calls.specs.declared.walking.Walked.{Walked}
use Rattle.run_inputs.specs.Files.{StandsAtFirst}
use Rattle.run_inputs.specs.WalkFaults.{IsWalkFault}
use Rattle.command_runs.specs.Pieces.{FailsAt, MayFailAt, PassesPlaces, RefusesPiece, StopsText, TellsFacts, TellsSegments, facts_of_piece}
use Rattle.trace_know.specs.Trace.{facts_from, facts_of_all}
use Rattle.run_inputs.specs.declared.faults.fault.RunFault.{RunFault}
use Rattle.run_inputs.specs.declared.faults.fault.RunFault.TheVariants.{Memory, File, Json, Shape, Piece, Packed, PackedFrame, Layout, Text, Missing, Wrong, Place, Rank, Outside, NodeCount, Step, Worker, Net, Frame, Write}

-- a walk to the end of the text
pub events_told : (file left : Option (List ℕ)) (events : List Event) (walked : Walked)
    → WalkTellsEvents → StandsAtFirst file left → IsWalked collected left [] events walked → TellsEvents file events
events_told None left events walked tells told h = tt
events_told (Some bytes) left events walked tells told h = subst (λ (t : Option (List ℕ)). TellsEvents t events) told (tells left events walked h)

-- the facts of a piece of events
facts_whole : (rank first : ℕ) (events : List Event) → facts_of_piece (piece_of rank first events) ≡ facts_from rank (enter_place first) events
facts_whole rank first [] = refl
facts_whole rank first (event ∷ events) = refl

-- the events of a text, as a piece
pub piece_told : (file : Option (List ℕ)) (rank first : ℕ) (events : List Event) (whole : Option PlacedEvents)
    → TellsEvents file events → whole ≡ piece_of rank first events → TellsFacts file rank first (facts_of_piece whole)
piece_told file rank first events whole told is = (events, told, ap facts_of_piece is ∙ facts_whole rank first events)

-- the events of a text, as segments
pub facts_told : (file : Option (List ℕ)) (rank first : ℕ) (events : List Event) (segments : List PlacedEvents)
    → SegmentsTellAll → TellsEvents file events → AreSegments rank first events segments → TellsFacts file rank first (facts_of_all segments)
facts_told file rank first events segments all told are = (events, told, all rank first events segments are)

pub segments_told : (file : Option (List ℕ)) (rank first : ℕ) (events : List Event) (segments : List PlacedEvents)
    → TellsEvents file events → AreSegments rank first events segments → TellsSegments file rank first segments
segments_told file rank first events segments told are = (events, told, are)

-- events of a text past the last place
pub places_told : (file : Option (List ℕ)) (first : ℕ) (events : List Event) → TellsEvents file events → HasPlacesPast first events → PassesPlaces first file
places_told file first events told past = (events, told, past)

-- a walk to the end of the text, and its events as a piece
pub walked_piece_told : (file left : Option (List ℕ)) (rank first : ℕ) (events : List Event) (walked : Walked) (whole : Option PlacedEvents)
    → WalkTellsEvents → StandsAtFirst file left → IsWalked collected left [] events walked → whole ≡ piece_of rank first events
    → TellsFacts file rank first (facts_of_piece whole)
walked_piece_told file left rank first events walked whole tells told h is =
    piece_told file rank first events whole (events_told file left events walked tells told h) is

pub walked_places_told : (file left : Option (List ℕ)) (first : ℕ) (events : List Event) (walked : Walked)
    → WalkTellsEvents → StandsAtFirst file left → IsWalked collected left [] events walked → HasPlacesPast first events → PassesPlaces first file
walked_places_told file left first events walked tells told h past = places_told file first events (events_told file left events walked tells told h) past

some_seen : (found : Option (List Seen)) (seen : List Seen) → found ≡ Some seen → IsSome found
some_seen None seen e = cc
some_seen (Some calls) seen e = refl

stops_told : (file left : Option (List ℕ)) (old new : List Event) (fault : WalkFault NoMemory) → StandsAtFirst file left
    → IsStopped {S = List Event} {F = NoMemory} collected left old new fault → StopsText file fault.cause fault.line
stops_told None left old new fault told h = tt
stops_told (Some bytes) left old new fault told h =
    (h.calls, some_seen (seen_in h.calls) h.handed.seen h.handed.typed_as, subst (λ (t : Option (List ℕ)). StopsWalk {F = NoMemory} t h.calls fault.cause fault.line) told h.stops)

-- where a text's reader fails
pub may_fail : {R : Type 0} (left : R → Option (List ℕ)) (failures : R → ℕ) (reader : R) (count line : ℕ) → FailsIn left failures reader count line → MayFailAt (left reader) line
may_fail left failures reader count line found =
    let after : FailsAfter left failures (left reader) (failures reader) found.0 line = found.2 in
    record {
      calls = found.0;
      at = after.at;
      known = after.known;
      read = after.read;
      next = after.next;
      rest = prepend_known after.at_hand (left after.new);
      line_is = after.line_is;
      lines = after.lines;
      into = after.into;
    }

fails_told : (file left : Option (List ℕ)) (cause : TextCause) (line : ℕ) (fault : WalkFault NoMemory) → StandsAtFirst file left
    → (IsReadStop {F = NoMemory} fault.cause → MayFailAt left fault.line) → fault.cause ≡ causes.Text (At line cause) → FailsAt cause file fault.line
fails_told file left (reads.Line broken) line fault told fails is = tt
fails_told None left reads.Read line fault told fails is = tt
fails_told (Some bytes) left reads.Read line fault told fails is =
    subst (λ (t : Option (List ℕ)). MayFailAt t fault.line) told (fails (At line reads.Read, is, (line, refl)))

-- a walk that was stopped, by what holds of where its reader failed
pub stop_told : (name : List ℕ) (first : ℕ) (file left : Option (List ℕ)) (old new : List Event) (fault : WalkFault NoMemory) (run : RunFault) → StandsAtFirst file left
    → IsStopped {S = List Event} {F = NoMemory} collected left old new fault
    → ((cause : TextCause) (line : ℕ) → fault.cause ≡ causes.Text (At line cause) → FailsAt cause file fault.line) → IsWalkFault name fault run → RefusesPiece name first file run
stop_told name first file left old new fault Memory told h fails is = tt
stop_told name first file left old new fault (Text cause path line) told h fails is =
    (is.0, fault.line, subst (λ (c : WalkCause NoMemory). StopsText file c fault.line) is.1 (stops_told file left old new fault told h), fails cause line is.1)
stop_told name first file left old new fault (Missing parameter path line) told h fails is =
    (is.0, subst (λ (n : ℕ). StopsText file (causes.Missing parameter) n) (sym is.2) (subst (λ (c : WalkCause NoMemory). StopsText file c fault.line) is.1 (stops_told file left old new fault told h)))
stop_told name first file left old new fault (Wrong parameter path line) told h fails is =
    (is.0, subst (λ (n : ℕ). StopsText file (causes.Wrong parameter) n) (sym is.2) (subst (λ (c : WalkCause NoMemory). StopsText file c fault.line) is.1 (stops_told file left old new fault told h)))
stop_told name first file left old new fault (File path) told h fails is = absurd is
stop_told name first file left old new fault (Json path at along) told h fails is = absurd is
stop_told name first file left old new fault (Shape path field) told h fails is = absurd is
stop_told name first file left old new fault (Piece path) told h fails is = absurd is
stop_told name first file left old new fault (Packed path) told h fails is = absurd is
stop_told name first file left old new fault (PackedFrame cause path frame) told h fails is = absurd is
stop_told name first file left old new fault (Layout broken path) told h fails is = absurd is
stop_told name first file left old new fault (Place path) told h fails is = absurd is
stop_told name first file left old new fault (Rank path) told h fails is = absurd is
stop_told name first file left old new fault Outside told h fails is = absurd is
stop_told name first file left old new fault NodeCount told h fails is = absurd is
stop_told name first file left old new fault (Step broken step) told h fails is = absurd is
stop_told name first file left old new fault Worker told h fails is = absurd is
stop_told name first file left old new fault Net told h fails is = absurd is
stop_told name first file left old new fault (Frame broken) told h fails is = absurd is
stop_told name first file left old new fault Write told h fails is = absurd is

-- a walk that was stopped
pub walk_told : (name : List ℕ) (first : ℕ) (file left : Option (List ℕ)) (old new : List Event) (fault : WalkFault NoMemory) (run : RunFault) → StandsAtFirst file left
    → IsStopped {S = List Event} {F = NoMemory} collected left old new fault → (IsReadStop {F = NoMemory} fault.cause → MayFailAt left fault.line) → IsWalkFault name fault run
    → RefusesPiece name first file run
walk_told name first file left old new fault run told h fails is =
    stop_told name first file left old new fault run told h (λ cause line e. fails_told file left cause line fault told fails e) is
