-- What the steps behind a post tell of the request that it posted.
use Rattle.std.specs.Prelude.{◌≡◌, ℕ, ℤ, Bool, Option, Some, None, is_some, List}
use denote.Ref.{Bor}
use Rattle.std.specs.List.{list_any}
use Rattle.std.specs.Option.{option_copied}
use Rattle.mpi_model.specs.declared.outcome.Outs.{Outs}
use Rattle.mpi_model.specs.Tells.{is_cancelled}
use Rattle.trace_ops.specs.declared.fate.Fate.{Fate}
use Rattle.trace_ops.specs.Ended.{ended_by}
use Rattle.trace_ops.specs.Steps.{Placed, Step, posted_by, touches}
use Rattle.trace_ops.specs.Source.{told_in, told_by}
use Rattle.trace_ops.specs.Touched.{end_of, ended_at, is_marked, is_void_end, tellings_of}
use Rattle.trace_ops.specs.Trust.{gives_back, has_cancel, said_by}

-- Of the request x: what is kept of it tells whether one of these steps ends it or gives its number anew, which call
-- completes it, whether a Cancel names it before that, whether the outcome says that it was cancelled, and its source.
pub record TellsFate (x : ℤ) (later : List Step) (fate : Fate) : Type 0 where
  pub request : fate.request ≡ x
  pub ended : is_some (end_of fate.touch) ≡ list_any (touches x) later
  pub by : ended_at fate.calls.now (end_of fate.touch) ≡ ended_by x later
  pub cancelled : is_marked fate.touch ≡ has_cancel x later
  pub void : is_void_end (end_of fate.touch) ≡ is_cancelled (said_by x later)
  pub told : (members : List ℕ) → told_in members x (tellings_of fate.calls.now (end_of fate.touch)) ≡ told_by members x later

-- of a step that posts this number, if any
abbrev pub IsFateOf : Option ℤ → List Step → Option Fate → Type 0
IsFateOf None later None = Unit {0}
IsFateOf None later (Some fate) = ⊥
IsFateOf (Some x) later None = ⊥
IsFateOf (Some x) later (Some fate) = TellsFate x later fate

-- whatever steps and number posted before them it is the fate of
abbrev pub OfFate : Option Fate → (List Step → Option ℤ → Type 0) → Type 0
OfFate fate P = (later : List Step) (posted : Option ℤ) → IsFateOf posted later fate → P later posted

-- whatever step, with those behind it, posts what it is the fate of
abbrev pub OfPost : Option Fate → (Placed → Type 0) → Type 0
OfPost fate P = (s : Step) (later : List Step) → IsFateOf (posted_by s) later fate → P (record { step = s; later = later })

-- the same, where the call has this outcome, and it is known whether one of the steps behind may give a message back
abbrev pub OfStep : Option (Bor Outs) → Option Fate → Bool → (Placed → Type 0) → Type 0
OfStep outs fate given_back P = OfPost fate (λ p. option_copied outs ≡ p.step.entry.outs → given_back ≡ gives_back p.later → P p)
