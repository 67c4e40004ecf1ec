-- One call more of a text that is walked: read whole, and handed on.
use Rattle.std.proofs.Common.{◌≡◌, ◌+◌, ◌++◌, ◌∷◌, [], ℕ, List, Option, Some, Result, IsOk, IsSome, None, subst, sym, ap, refl, inl, inr, ◌∙◌}
use Rattle.dumpi_text.specs.Call.{TextCall}
use Rattle.dumpi_text.specs.Kept.{kept_call}
use Rattle.dumpi_text.specs.Next.{IsNext}
use Rattle.dumpi_text.specs.Grammar.{Complete}
use Rattle.dumpi_text.specs.Reading.{HasRead, MeansAll, ReadsOneMore}
use Rattle.dumpi_text.specs.Skips.{IsFirstSkipped, TellsFirstSkipped}
use Rattle.dumpi_text.specs.Source.{rest_of}
use Rattle.dumpi_text.specs.Standing.{TextState}
use Rattle.dumpi_text.specs.Usual.{StandsWhole, call_after}
use Rattle.dumpi_text.specs.declared.standing.TextStanding.{TextStanding}
use Rattle.dumpi_text.specs.declared.standing.TextStanding.TheVariants.{Reading, Finished}
use Rattle.dumpi_text.specs.declared.step.Position.{Position}
use Rattle.dumpi_calls.specs.InPlace.{IsWhole, usual_name}
use Rattle.dumpi_calls.specs.Looked.{looked_choice}
use Rattle.dumpi_calls.specs.Rows.{Row, row}
use Rattle.dumpi_calls.specs.Seen.{Seen, seen_by}
use Rattle.dumpi_calls.specs.Walks.{Begins, Follows, FollowsKept, FollowsWhole, HandedOn, IsRead, IsStopped, IsTypedAs, IsWalked, RefusesCall, StopsWalk, Takes, TakesNext, open_line, unfinished_line, unless_returned}
use Rattle.mpi_model.specs.Times.{Times}
use Rattle.dumpi_calls.specs.declared.fault.WalkCause.{WalkCause}
use Rattle.dumpi_calls.specs.declared.fault.WalkCause.TheVariants.{Text, Missing, Wrong, Sink, Memory}
use Rattle.dumpi_calls.specs.declared.function.Function.{Function}
use Rattle.dumpi_calls.specs.declared.parameter.CallFault.{CallFault}
use Rattle.dumpi_calls.specs.declared.fault.WalkFault.{WalkFault}
use Rattle.dumpi_calls.specs.declared.typing.TypedCall.{TypedCall}
use Rattle.dumpi_calls.specs.declared.walking.Walked.{Walked}
use Rattle.dumpi_calls.proofs.Looked.{kept_typed}
use Rattle.dumpi_calls.proofs.Handed.{last_unfinished, one_handed}

-- a whole call may be passed
pub stands_whole : (text : List ℕ) (function : Function) (call : TypedCall) (bytes lines : ℕ) → IsWhole function call bytes lines text → StandsWhole text bytes lines call.enter
stands_whole text function call bytes lines whole = record {
  content = record { name = usual_name function; params = whole.params };
  exit = whole.exit;
  call = whole.stands;
  counted = whole.counted;
}

-- a whole call was read
pub follows_whole : ReadsOneMore → (text : Option (List ℕ)) (calls : List TextCall) (old new : TextState) (function : Function) (call : TypedCall) (bytes lines line : ℕ) → HasRead text calls old.at (rest_of old.rest) → IsRead text calls old
    → (whole : IsWhole function call bytes lines old.rest.at_hand) → IsNext old.at (rest_of old.rest) (Some (call_after old.at (record { name = usual_name function; params = whole.params }) call.enter whole.exit)) new.at (rest_of new.rest)
    → new.told ≡ new.at → new.standing ≡ Reading → line ≡ old.told.line + 1 → FollowsWhole text calls function call line new
follows_whole one_more text calls old new function call bytes lines line read is_read whole next told reading first = record {
  raw = call_after old.at (record { name = usual_name function; params = whole.params }) call.enter whole.exit;
  read = record {
    stands = inl (reading, one_more text calls old.at (rest_of old.rest) (call_after old.at (record { name = usual_name function; params = whole.params }) call.enter whole.exit) new.at (rest_of new.rest) read next refl);
    told = told;
  };
  is = record {
    row_is = ap (λ (f : Function). row f (usual_name function)) whole.function_is;
    typed_as = whole.typed_as old.at;
    line_is = sym (first ∙ ap (λ (at : Position). at.line + 1) is_read.told);
    exit_is = refl;
  };
}

-- the sink took it
pub takes_whole : {S : Type 0} → (step : S → Seen → S) (raw : TextCall) (function : Function) (call : TypedCall) (line : ℕ) (old new : S) → IsTypedAs raw function call line
    → new ≡ step old (seen_by (row function (usual_name function)) call) → Takes step raw old new
takes_whole step raw function call line old new is state = record {
  call = call;
  typed_as = is.typed_as;
  state = state ∙ ap (λ (r : Row). step old (seen_by r call)) (sym is.row_is);
}

-- the sink refused it
pub refuses_whole : {F : Type 0} → (raw : TextCall) (function : Function) (call : TypedCall) (line : ℕ) (fault : F) → IsTypedAs raw function call line → RefusesCall raw (Sink fault) line
refuses_whole raw function call line fault is = (sym is.line_is, subst (λ (r : Result TypedCall CallFault). IsOk r) (sym is.typed_as) refl)

-- A walk with one call more.
pub advanced : {S : Type 0} → (step : S → Seen → S) (text : Option (List ℕ)) (calls : List TextCall) (open_at : Option ℕ) (view : TextState) (first old new : S) (count : ℕ) → HandedOn step calls first old count
    → TakesNext step text calls open_at view old new → (all : List TextCall) × IsRead text all view × HandedOn step all first new (count + 1) × (open_at ≡ unfinished_line all)
advanced step text calls open_at view first old new count handed next =
    (calls ++ next.raw ∷ [], next.read, one_handed step calls next.raw first old new count handed next.takes, next.open_is ∙ sym (last_unfinished calls next.raw))

-- handed on as before, where the sink is as it was
still_handed : {S : Type 0} → (step : S → Seen → S) (calls : List TextCall) (first old new : S) (count total : ℕ) → HandedOn step calls first old count → new ≡ old → total ≡ count → HandedOn step calls first new total
still_handed step calls first old new count total handed same counted = record { seen = handed.seen; typed_as = handed.typed_as; state = same ∙ handed.state; counted = counted ∙ handed.counted }

-- The text is over.
pub walked_all : {S : Type 0} → TellsFirstSkipped → (step : S → Seen → S) (text : Option (List ℕ)) (calls : List TextCall) (view : TextState) (first old new : S) (walked : Walked) → HandedOn step calls first old walked.calls
    → MeansAll text calls (Complete view.told) → new ≡ old → walked.skipped ≡ view.told.skipped → walked.first_skipped ≡ view.told.first_skipped → walked.unfinished ≡ unfinished_line calls → IsWalked step text first new walked
walked_all law step text calls view first old new walked handed means same skipped first_skipped unfinished = record {
  calls = calls;
  at = view.told;
  means = means;
  handed = still_handed step calls first old new walked.calls walked.calls handed same refl;
  skipped = skipped;
  first_skipped = subst (λ (line : Option ℕ). IsFirstSkipped text line) (sym first_skipped) (law text calls view.told means);
  unfinished = unfinished;
}

-- A call can't be had, or is refused.
pub walk_stopped : {S F : Type 0} → (step : S → Seen → S) (text : Option (List ℕ)) (calls : List TextCall) (first old new : S) (count : ℕ) (fault : WalkFault F) → HandedOn step calls first old count
    → StopsWalk text calls fault.cause fault.line → new ≡ old → fault.calls ≡ count → IsStopped step text first new fault
walk_stopped step text calls first old new count fault handed stops same counted = record {
  calls = calls;
  handed = still_handed step calls first old new count fault.calls handed same counted;
  stops = stops;
}

-- calls that were read are those that the text begins with
begins : (text : Option (List ℕ)) (calls : List TextCall) (view : TextState) → IsRead text calls view → Begins text calls
begins text calls view is_read = elim is_read.stands [ inl e ↦ inl (view.at, rest_of view.rest, e.1) | inr e ↦ inr (view.at, e.1) ]

-- a text that is read on begins with them
pub still_read : (text : Option (List ℕ)) (calls : List TextCall) (view : TextState) → view.standing ≡ Reading → IsRead text calls view → HasRead text calls view.at (rest_of view.rest)
still_read text calls view reading is_read = elim is_read.stands [ inl e ↦ e.1 | inr e ↦ (let both : ◌≡◌ {A = TextStanding} Reading Finished = sym reading ∙ e.0 in cc) ]

-- ---- the next call, read whole or line by line

-- a call that has returned isn't open at a line
has_exit : (exit : Option Times) (line : ℕ) → IsSome exit → None ≡ unless_returned exit line
has_exit None line h = cc
has_exit (Some stamp) line h = refl

-- the call was read whole and taken
pub whole_next : {S : Type 0} → (step : S → Seen → S) (text : Option (List ℕ)) (calls : List TextCall) (function : Function) (call : TypedCall) (line : ℕ) (view : TextState) (old new : S)
    → FollowsWhole text calls function call line view → ((raw : TextCall) → IsTypedAs raw function call line → Takes step raw old new) → TakesNext step text calls None view old new
whole_next step text calls function call line view old new follows takes = record {
  raw = follows.raw;
  read = follows.read;
  takes = takes follows.raw follows.is;
  open_is = has_exit follows.raw.exit follows.raw.line follows.is.exit_is;
}

-- or refused
pub whole_refused : {F : Type 0} → (text : Option (List ℕ)) (calls : List TextCall) (function : Function) (call : TypedCall) (line at : ℕ) (cause : WalkCause F) (view : TextState)
    → FollowsWhole text calls function call line view → ((raw : TextCall) → IsTypedAs raw function call line → RefusesCall raw cause at) → StopsWalk text calls cause at
whole_refused text calls function call line at cause view follows refuses =
    inr (follows.raw, begins text (calls ++ follows.raw ∷ []) view follows.read, refuses follows.raw follows.is)

-- a text that no call was read of whole is as it was
pub as_it_was : (text : Option (List ℕ)) (calls : List TextCall) (old mid : TextState) → mid ≡ old → IsRead text calls old → IsRead text calls mid
as_it_was text calls old mid same read = subst (λ (view : TextState). IsRead text calls view) (sym same) read

-- the call was read line by line and taken
pub line_next : {S : Type 0} → (step : S → Seen → S) (text : Option (List ℕ)) (calls : List TextCall) (raw : TextCall) (open_at : Option ℕ) (view : TextState) (old new : S)
    → Follows text calls (Some raw) view → Takes step raw old new → open_at ≡ open_line raw → TakesNext step text calls open_at view old new
line_next step text calls raw open_at view old new follows takes open_is = record { raw = raw; read = follows; takes = takes; open_is = open_is }

-- or refused
pub line_refused : {F : Type 0} → (text : Option (List ℕ)) (calls : List TextCall) (raw : TextCall) (cause : WalkCause F) (line : ℕ) (view : TextState)
    → Follows text calls (Some raw) view → RefusesCall raw cause line → StopsWalk text calls cause line
line_refused text calls raw cause line view follows refuses = inr (raw, begins text (calls ++ raw ∷ []) view follows, refuses)

-- the sink took a call by what is kept of it
takes_kept : {S : Type 0} → (step : S → Seen → S) (raw : TextCall) (old new : S) → Takes step (kept_call looked_choice raw) old new → Takes step raw old new
takes_kept step raw old new takes = record { call = takes.call; typed_as = sym (kept_typed raw) ∙ takes.typed_as; state = takes.state }

-- or refused it
refuses_kept : {F : Type 0} → (raw : TextCall) (cause : WalkCause F) (line : ℕ) → RefusesCall (kept_call looked_choice raw) cause line → RefusesCall raw cause line
refuses_kept raw (Text fault) line r = (r.0, r.1, r.2, (r.3.0, sym (kept_typed raw) ∙ r.3.1))
refuses_kept raw (Missing parameter) line r = (r.0, r.1, sym (kept_typed raw) ∙ r.2)
refuses_kept raw (Wrong parameter) line r = (r.0, sym (kept_typed raw) ∙ r.1)
refuses_kept raw (Sink fault) line r = (r.0, subst (λ (t : Result TypedCall CallFault). IsOk t) (kept_typed raw) r.1)
refuses_kept raw Memory line r = r

-- the call was read line by line, as far as it is looked at, and taken
pub kept_next : {S : Type 0} → (step : S → Seen → S) (text : Option (List ℕ)) (calls : List TextCall) (kept : TextCall) (open_at : Option ℕ) (view : TextState) (old new : S)
    → FollowsKept text calls (Some kept) view → Takes step kept old new → open_at ≡ open_line kept → TakesNext step text calls open_at view old new
unfolding FollowsKept
kept_next step text calls kept open_at view old new follows takes open_is = record {
  raw = follows.0;
  read = follows.2;
  takes = takes_kept step follows.0 old new (subst (λ (k : TextCall). Takes step k old new) follows.1 takes);
  open_is = open_is ∙ ap open_line follows.1;
}

-- or refused
pub kept_refused : {F : Type 0} → (text : Option (List ℕ)) (calls : List TextCall) (kept : TextCall) (cause : WalkCause F) (line : ℕ) (view : TextState)
    → FollowsKept text calls (Some kept) view → RefusesCall kept cause line → StopsWalk text calls cause line
unfolding FollowsKept
kept_refused text calls kept cause line view follows refuses =
    inr (follows.0, begins text (calls ++ follows.0 ∷ []) view follows.2, refuses_kept follows.0 cause line (subst (λ (k : TextCall). RefusesCall k cause line) follows.1 refuses))

-- there was no call more
pub none_follows : (text : Option (List ℕ)) (calls : List TextCall) (view : TextState) → FollowsKept text calls None view → MeansAll text calls (Complete view.told)
unfolding FollowsKept
none_follows text calls view follows = follows
