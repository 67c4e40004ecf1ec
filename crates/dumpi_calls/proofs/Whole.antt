-- Of the calls of a text all but the last have returned, so nothing is left out.
use Rattle.std.proofs.Common.{◌≡◌, ◌∙◌, List, [], ◌∷◌, ◌++◌, Bool, false, Option, Some, None, Result, Ok, Err, IsSome, ap, sym, refl, subst, append_assoc}
use Rattle.std.proofs.lemmas.List.{append-nil}
use Rattle.std.specs.List.{flat_map}
use Rattle.std.specs.Prelude.{if◌then◌else◌}
use Rattle.mpi_model.specs.Times.{Times}
use Rattle.mpi_model.specs.declared.call.Call.{Call}
use Rattle.mpi_model.specs.declared.event.Event.{Event}
use Rattle.mpi_model.specs.declared.event.Exit.{Exit}
use Rattle.dumpi_text.specs.Call.{TextCall}
use Rattle.dumpi_text.specs.Grammar.{Complete, Meaning}
use Rattle.dumpi_text.specs.Open.{HaveReturned, OnlyTheLastIsOpen}
use Rattle.dumpi_calls.specs.Collected.{collected, ends_open, events_of}
use Rattle.dumpi_calls.specs.Readings.{◌>>=◌}
use Rattle.dumpi_calls.specs.Rows.{Row, exit_in, missing_in, read_by, returned, row_of, typed, unless_missing}
use Rattle.dumpi_calls.specs.Seen.{Seen, after, seen_by, seen_in, with_seen}
use Rattle.dumpi_calls.specs.Whole.{CollectsAll, HaveExits, TellsOpenLast, WalkTellsEvents}
use Rattle.dumpi_calls.specs.declared.parameter.CallFault.{CallFault}
use Rattle.dumpi_calls.specs.declared.parameter.Parameter.{Parameter}
use Rattle.dumpi_calls.specs.declared.typing.TypedCall.{TypedCall}
use Rattle.dumpi_calls.proofs.Alternating.{open_more}

-- by what was found of its exit
exit_from : (call : Call) (enter : Times) (found : Result Exit CallFault) (typed_call : TypedCall)
    → ((found >>= (λ e. Ok (Some e))) >>= (λ exit. Ok (record { call = call; enter = enter; exit = exit }))) ≡ Ok typed_call → IsSome typed_call.exit
exit_from call enter (Err fault) typed_call e = cc
exit_from call enter (Ok exit) typed_call e =
    let same : record { call = call; enter = enter; exit = Some exit } ≡ typed_call = cc in
    subst (λ (t : TypedCall). IsSome t.exit) same refl

-- by its exit
by_exit : (raw : TextCall) (call : Call) (exit : Option Times) (typed_call : TypedCall)
    → (exit_in call exit raw >>= (λ e. Ok (record { call = call; enter = raw.enter; exit = e }))) ≡ Ok typed_call → IsSome exit → IsSome typed_call.exit
by_exit raw call None typed_call e some = cc
by_exit raw call (Some stamp) typed_call e some = exit_from call raw.enter (returned call stamp raw) typed_call e

-- by its call
by_call : (raw : TextCall) (found : Result Call CallFault) (typed_call : TypedCall)
    → (found >>= (λ call. exit_in call raw.exit raw >>= (λ e. Ok (record { call = call; enter = raw.enter; exit = e })))) ≡ Ok typed_call → IsSome raw.exit → IsSome typed_call.exit
by_call raw (Err fault) typed_call e some = cc
by_call raw (Ok call) typed_call e some = by_exit raw call raw.exit typed_call e some

-- by its row
by_row : (row : Row) (raw : TextCall) (typed_call : TypedCall) → read_by row raw ≡ Ok typed_call → IsSome raw.exit → IsSome typed_call.exit
unfolding read_by
by_row row raw typed_call e some = by_call raw (row.call raw) typed_call e some

-- unless a parameter is missing
unless : (missing : Option Parameter) (row : Row) (raw : TextCall) (typed_call : TypedCall) → unless_missing missing (read_by row raw) ≡ Ok typed_call → IsSome raw.exit → IsSome typed_call.exit
unless (Some parameter) row raw typed_call e some = cc
unless None row raw typed_call e some = by_row row raw typed_call e some

-- a call that returned is typed with its exit
returns_typed : (raw : TextCall) (typed_call : TypedCall) → typed raw ≡ Ok typed_call → IsSome raw.exit → IsSome typed_call.exit
returns_typed raw typed_call e some = unless (missing_in (row_of raw) raw) (row_of raw) raw typed_call e some

-- one call before others that are seen
closed_from : (row : Row) (first : Result TypedCall CallFault) (others : Option (List Seen)) (seen : List Seen)
    → with_seen row first others ≡ Some seen → ((t : TypedCall) → first ≡ Ok t → IsSome t.exit) → ((rest : List Seen) → others ≡ Some rest → HaveExits rest) → HaveExits seen
closed_from row (Err fault) others seen e some rest = cc
closed_from row (Ok call) None seen e some rest = cc
closed_from row (Ok call) (Some []) seen e some rest =
    let same : seen_by row call ∷ [] ≡ seen = cc in
    subst HaveExits same tt
closed_from row (Ok call) (Some (other ∷ others)) seen e some rest =
    let same : seen_by row call ∷ other ∷ others ≡ seen = cc in
    subst HaveExits same (some call refl, rest (other ∷ others) refl)

-- one call alone
single : (row : Row) (first : Result TypedCall CallFault) (seen : List Seen) → with_seen row first (Some []) ≡ Some seen → HaveExits seen
single row (Err fault) seen e = cc
single row (Ok call) seen e =
    let same : seen_by row call ∷ [] ≡ seen = cc in
    subst HaveExits same tt

-- every call that is seen but the last has returned
all_closed : (calls : List TextCall) (seen : List Seen) → HaveReturned calls → seen_in calls ≡ Some seen → HaveExits seen
all_closed [] [] h e = tt
all_closed [] (s ∷ ss) h e = cc
all_closed (call ∷ []) seen h e = single (row_of call) (typed call) seen e
all_closed (call ∷ next ∷ calls) seen h e =
    closed_from (row_of call) (typed call) (seen_in (next ∷ calls)) seen e (λ t t_is. returns_typed call t t_is h.0) (λ rest rest_is. all_closed (next ∷ calls) rest h.1 rest_is)

-- a call after one that has returned is kept
kept : (events : List Event) (call : Seen) → ends_open events ≡ false → collected events call ≡ events ++ events_of call
kept events call e = ap (λ (b : Bool). if b then events else events ++ events_of call) e

-- a call that returned ends what was kept
ends_closed : (events : List Event) (call : Seen) (exit : Option Exit) → call.exit ≡ exit → IsSome exit → ends_open (events ++ events_of call) ≡ false
ends_closed events call None e some = cc
ends_closed events call (Some exit) e some = open_more false events (events_of call) ∙ rw e refl

-- all calls are kept
collects : (events : List Event) (seen : List Seen) → ends_open events ≡ false → HaveExits seen → after collected events seen ≡ events ++ flat_map events_of seen
collects events [] e h = sym (append-nil events)
collects events (call ∷ []) e h = kept events call e ∙ ap (λ (more : List Event). events ++ more) (sym (append-nil (events_of call)))
collects events (call ∷ next ∷ calls) e h =
    ap (λ (all : List Event). after collected all (next ∷ calls)) (kept events call e)
    ∙ collects (events ++ events_of call) (next ∷ calls) (ends_closed events call call.exit refl h.0) h.1
    ∙ append_assoc events (events_of call) (flat_map events_of (next ∷ calls))

-- a sink is told a call that has not returned only as the last
pub opens_last : OnlyTheLastIsOpen → TellsOpenLast
opens_last only_the_last text calls end seen means seen_as =
    all_closed calls seen (subst (λ (m : Meaning). HaveReturned m.calls) means (only_the_last text)) seen_as

-- nothing is left out of a text's calls
pub collects_all : OnlyTheLastIsOpen → CollectsAll
collects_all only_the_last text calls end seen means seen_as = collects [] seen refl (opens_last only_the_last text calls end seen means seen_as)

-- what a walk over a whole text leaves
pub tells_events : OnlyTheLastIsOpen → WalkTellsEvents
tells_events only_the_last None events walked h = tt
tells_events only_the_last (Some text) events walked h = record {
  calls = h.calls;
  seen = h.handed.seen;
  at = h.at;
  whole = h.means;
  typed_as = h.handed.typed_as;
  events_are = h.handed.state ∙ collects_all only_the_last text h.calls (Complete h.at) h.handed.seen h.means h.handed.typed_as;
}
