-- A text that is read call by call, by dumpi_text's laws, which come as premises.
use Rattle.std.proofs.Common.{◌≡◌, ◌⊎◌, ℕ, Bool, true, false, List, [], ◌∷◌, ◌++◌, Option, Some, None, inl, inr, refl, sym, subst, ap, ◌∙◌}
use Rattle.std.proofs.lemmas.Bool.{false≢true}
use Rattle.std.specs.Io.KnownBytes.{IsAtEnd}
use Rattle.dumpi_text.specs.Call.{TextCall}
use Rattle.dumpi_text.specs.Grammar.{Complete}
use Rattle.dumpi_text.specs.Kept.{IsNextKept, kept_found}
use Rattle.dumpi_text.specs.Next.{IsNext, is_cut}
use Rattle.dumpi_text.specs.Shown.{put_in}
use Rattle.dumpi_text.specs.Reading.{EndsAfterTheLast, EndsAtAThread, HasRead, MeansAll, ReadsOneMore, ReadsToTheEnd, StopsAtTheFault}
use Rattle.dumpi_text.specs.Source.{rest_of}
use Rattle.dumpi_text.specs.Standing.{Stops, TextState}
use Rattle.dumpi_text.specs.declared.fault.TextCause.{TextCause}
use Rattle.dumpi_text.specs.declared.fault.TextCause.TheVariants as causes
use Rattle.dumpi_text.specs.declared.fault.TextFault.{TextFault}
use Rattle.dumpi_text.specs.declared.fault.TextFault.TheVariants as faults
use Rattle.dumpi_text.specs.declared.standing.TextStanding.{TextStanding}
use Rattle.dumpi_text.specs.declared.standing.TextStanding.TheVariants.{Reading, Finished, Ended}
use Rattle.dumpi_text.specs.declared.step.Position.{Position}
use Rattle.dumpi_calls.specs.Looked.{looked_choice}
use Rattle.dumpi_calls.specs.Walks.{Follows, FollowsKept, IsRead, RefusesNext}

-- how a text stands after one call more that no other thread ended
stands_on : EndsAfterTheLast → (text : Option (List ℕ)) (calls : List TextCall) (standing : TextStanding) (at : Position) (rest : Option (List ℕ)) → HasRead text calls at rest
    → (standing ≡ Ended → ⊥) → (standing ≡ Finished → IsAtEnd rest) → ((standing ≡ Reading) × HasRead text calls at rest) ⊎ ((standing ≡ Finished) × MeansAll text calls (Complete at))
stands_on after_the_last text calls Reading at rest read goes over = inl (refl, read)
stands_on after_the_last text calls Finished at rest read goes over = inr (refl, after_the_last text calls at rest read (over refl))
stands_on after_the_last text calls Ended at rest read goes over = absurd (goes refl)

-- how it stands after one that another thread ended
stands_cut : (text : Option (List ℕ)) (calls : List TextCall) (standing : TextStanding) (at : Position) (rest : Option (List ℕ)) → MeansAll text calls (Complete at)
    → (standing ≡ Ended → ⊥) → (standing ≡ Reading → ⊥) → ((standing ≡ Reading) × HasRead text calls at rest) ⊎ ((standing ≡ Finished) × MeansAll text calls (Complete at))
stands_cut text calls Reading at rest means goes last = absurd (last refl)
stands_cut text calls Finished at rest means goes last = inr (refl, means)
stands_cut text calls Ended at rest means goes last = absurd (goes refl)

-- dumpi_text's laws of reading on
pub record Laws : Type 0 where
  pub goes_on : ReadsOneMore
  pub at_a_thread : EndsAtAThread
  pub ends : ReadsToTheEnd
  pub after_the_last : EndsAfterTheLast

-- one call more, by whether another thread ended it
one_call : Laws → (text : Option (List ℕ)) (calls : List TextCall) (call : TextCall) (threads : Bool) (old new : TextState) → call.threads ≡ threads → HasRead text calls old.at (rest_of old.rest)
    → IsNext old.at (rest_of old.rest) (Some call) new.at (rest_of new.rest) → (new.standing ≡ Ended → ⊥) → (new.standing ≡ Finished → call.threads ≡ false → IsAtEnd (rest_of new.rest))
    → (new.standing ≡ Reading → call.threads ≡ false) → ((new.standing ≡ Reading) × HasRead text (calls ++ call ∷ []) new.at (rest_of new.rest)) ⊎ ((new.standing ≡ Finished) × MeansAll text (calls ++ call ∷ []) (Complete new.at))
one_call laws text calls call false old new is read next goes over whole =
    stands_on laws.after_the_last text (calls ++ call ∷ []) new.standing new.at (rest_of new.rest) (laws.goes_on text calls old.at (rest_of old.rest) call new.at (rest_of new.rest) read next is) goes (λ finished. over finished is)
one_call laws text calls call true old new is read next goes over whole =
    stands_cut text (calls ++ call ∷ []) new.standing new.at (rest_of new.rest) (laws.at_a_thread text calls old.at (rest_of old.rest) call new.at (rest_of new.rest) read next is) goes
    (λ reading. false≢true (sym (whole reading) ∙ is))

-- the next call while the text is read
reads_on : Laws → (text : Option (List ℕ)) (calls : List TextCall) (found : Option TextCall) (old new : TextState) → HasRead text calls old.at (rest_of old.rest)
    → IsNext old.at (rest_of old.rest) found new.at (rest_of new.rest)
    → (new.standing ≡ Ended → ⊥) → (new.standing ≡ Finished → is_cut found ≡ false → IsAtEnd (rest_of new.rest)) → (new.standing ≡ Reading → is_cut found ≡ false) → new.told ≡ new.at
    → Follows text calls found new
reads_on laws text calls (Some call) old new read next goes over whole told = record {
  stands = one_call laws text calls call call.threads old new refl read next goes over whole;
  told = told;
}
reads_on laws text calls None old new read next goes over whole told =
    subst (λ (at : Position). MeansAll text calls (Complete at)) (sym told) (laws.ends text calls old.at (rest_of old.rest) new.at (rest_of new.rest) read next)

-- there is none after the last call
was_last : (text : Option (List ℕ)) (calls : List TextCall) (found : Option TextCall) (old new : TextState) → old.told ≡ old.at
    → MeansAll text calls (Complete old.at) → found ≡ None → new ≡ old → Follows text calls found new
was_last text calls (Some call) old new told means none same = cc
was_last text calls None old new told means none same =
    subst (λ (at : Position). MeansAll text calls (Complete at)) (sym told ∙ ap (λ (v : TextState). v.told) (sym same)) means

-- an answer that is no refusal: the next call, or none at the end
pub goes_on : Laws → (text : Option (List ℕ)) (calls : List TextCall) (found : Option TextCall) (old new : TextState)
    → (old.standing ≡ Reading → IsNext old.at (rest_of old.rest) found new.at (rest_of new.rest))
    → (old.standing ≡ Reading → new.told ≡ new.at)
    → (new.standing ≡ Ended → ⊥) → (old.standing ≡ Reading → new.standing ≡ Finished → is_cut found ≡ false → IsAtEnd (rest_of new.rest))
    → (new.standing ≡ Reading → is_cut found ≡ false)
    → (old.standing ≡ Finished → found ≡ None) → (old.standing ≡ Finished → new ≡ old)
    → IsRead text calls old → Follows text calls found new
goes_on laws text calls found old new next told goes over whole finished same is_read = elim is_read.stands [
  | inl e ↦ reads_on laws text calls found old new e.1 (next e.0) goes (over e.0) whole (told e.0)
  | inr e ↦ was_last text calls found old new is_read.told e.1 (finished e.0) (same e.0)
]

-- whether another thread ended a call is kept of it
cut_kept : (whole : Option TextCall) → is_cut (kept_found looked_choice whole) ≡ is_cut whole
cut_kept None = refl
cut_kept (Some call) = refl

follows_kept : (text : Option (List ℕ)) (calls : List TextCall) (whole : Option TextCall) (view : TextState) → Follows text calls whole view → FollowsKept text calls (kept_found looked_choice whole) view
unfolding FollowsKept
follows_kept text calls None view follows = follows
follows_kept text calls (Some raw) view follows = (raw, refl, follows)

-- the next call while the text is read, of which this is kept
keeps_on : Laws → (text : Option (List ℕ)) (calls : List TextCall) (found : Option TextCall) (old new : TextState) → HasRead text calls old.at (rest_of old.rest)
    → IsNextKept looked_choice old.at (rest_of old.rest) found new.at (rest_of new.rest)
    → (new.standing ≡ Ended → ⊥) → (new.standing ≡ Finished → is_cut found ≡ false → IsAtEnd (rest_of new.rest)) → (new.standing ≡ Reading → is_cut found ≡ false) → new.told ≡ new.at
    → FollowsKept text calls found new
unfolding IsNextKept
keeps_on laws text calls found old new read next goes over whole told =
    let cut : is_cut found ≡ is_cut next.0 = ap is_cut next.1 ∙ cut_kept next.0 in
    subst (λ (f : Option TextCall). FollowsKept text calls f new) (sym next.1)
    (follows_kept text calls next.0 new (reads_on laws text calls next.0 old new read next.2 goes (λ finished no_cut. over finished (cut ∙ no_cut)) (λ reading. sym cut ∙ whole reading) told))

-- an answer that is no refusal, so
pub keeps_going : Laws → (text : Option (List ℕ)) (calls : List TextCall) (found : Option TextCall) (old new : TextState)
    → (old.standing ≡ Reading → IsNextKept looked_choice old.at (rest_of old.rest) found new.at (rest_of new.rest))
    → (old.standing ≡ Reading → new.told ≡ new.at)
    → (new.standing ≡ Ended → ⊥) → (old.standing ≡ Reading → new.standing ≡ Finished → is_cut found ≡ false → IsAtEnd (rest_of new.rest))
    → (new.standing ≡ Reading → is_cut found ≡ false)
    → (old.standing ≡ Finished → found ≡ None) → (old.standing ≡ Finished → new ≡ old)
    → IsRead text calls old → FollowsKept text calls found new
keeps_going laws text calls found old new next told goes over whole finished same is_read = elim is_read.stands [
  | inl e ↦ keeps_on laws text calls found old new e.1 (next e.0) goes (over e.0) whole (told e.0)
  | inr e ↦ subst (λ (f : Option TextCall). FollowsKept text calls f new) (sym (finished e.0)) (follows_kept text calls None new (was_last text calls None old new is_read.told e.1 refl (same e.0)))
]

-- a call that was put in a place is no other than that one
pub put_whole : (found : Bool) (call : TextCall) → (found ≡ true → call.threads ≡ false) → is_cut (put_in found call) ≡ false
put_whole true call h = h refl
put_whole false call h = refl

-- no call is put in a place where there was none
pub nothing_put : (found : Bool) (call : TextCall) → found ≡ false → put_in found call ≡ None
nothing_put true call e = cc
nothing_put false call e = refl

-- a refusal at a line, by its cause
stops_at : StopsAtTheFault → (text : Option (List ℕ)) (calls : List TextCall) (cause : TextCause) (line : ℕ) (old new : TextState) → HasRead text calls old.at (rest_of old.rest)
    → Stops old new (faults.At line cause) → RefusesNext text calls (faults.At line cause) new.told.line
stops_at at_the_fault text calls causes.Read line old new read s = (s.0, inl (old.at, rest_of old.rest, read))
stops_at at_the_fault text calls (causes.Line fault) line old new read s =
    (s.0, (new.told, at_the_fault text calls old.at (rest_of old.rest) fault new.told read s.1.1, refl))

-- a refusal while the text is read
stops_by : StopsAtTheFault → (text : Option (List ℕ)) (calls : List TextCall) (fault : TextFault) (old new : TextState) → HasRead text calls old.at (rest_of old.rest) → old.told ≡ old.at
    → Stops old new fault → RefusesNext text calls fault new.told.line
stops_by at_the_fault text calls faults.Memory old new read told s = (old.at, rest_of old.rest, read, ap (λ (at : Position). at.line) (s.1 ∙ told))
stops_by at_the_fault text calls faults.Ended old new read told s = s
stops_by at_the_fault text calls (faults.At line cause) old new read told s = stops_at at_the_fault text calls cause line old new read s

-- a refusal: a text that is over has none
pub stops : StopsAtTheFault → (text : Option (List ℕ)) (calls : List TextCall) (fault : TextFault) (old new : TextState)
    → (old.standing ≡ Reading → Stops old new fault) → (old.standing ≡ Finished → ⊥)
    → IsRead text calls old → RefusesNext text calls fault new.told.line
stops at_the_fault text calls fault old new reading finished is_read = elim is_read.stands [
  | inl e ↦ stops_by at_the_fault text calls fault old new e.1 is_read.told (reading e.0)
  | inr e ↦ absurd (finished e.0)
]
