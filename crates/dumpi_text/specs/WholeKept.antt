-- Calls that stand whole in front of a text, and what is kept of them while they are read.
use Rattle.std.specs.Prelude.{◌≡◌, ℕ, List, drop, length}
use Rattle.mpi_model.specs.Times.{Times}
use Rattle.dumpi_text.specs.Call.{CallContent, Param, TextCall}
use Rattle.dumpi_text.specs.Kept.{Choice, kept_after, kept_call, more_kept}
use Rattle.dumpi_text.specs.Stamps.{Returning}
use Rattle.dumpi_text.specs.Usual.{HasCall, HasLine, Tells, TellsAll, call_after, lines_of}
use Rattle.dumpi_text.specs.declared.step.Position.{Position}

-- a call with one parameter more, where it is kept
abbrev pub with_kept : Choice → TextCall → Param → TextCall
with_kept keep call param = record call { params = more_kept keep call.name call.params param }

-- a call with those of further parameters that are kept
abbrev pub with_all_kept : Choice → TextCall → List Param → TextCall
with_all_kept keep call params = record call { params = kept_after keep call.name call.params params }

-- A text begins with a line that tells a parameter, which the call has then, where it is kept.
pub record PutsOne (keep : Choice) (old new : TextCall) (text rest : List ℕ) : Type 0 where
  pub param : Param
  pub tells : Tells param text rest
  pub kept : new ≡ with_kept keep old param

-- A text begins with so many such lines.
pub record PutsAll (keep : Choice) (old new : TextCall) (count : ℕ) (text rest : List ℕ) : Type 0 where
  pub params : List Param
  pub tells : TellsAll params text rest
  pub counted : count ≡ length params
  pub kept : new ≡ with_all_kept keep old params

-- A text begins with so many such lines, and then with the line that returns from the call at this time.
pub record EndsKept (keep : Choice) (old new : TextCall) (name : List ℕ) (count : ℕ) (exit : Times) (text rest : List ℕ) : Type 0 where
  pub after : List ℕ
  pub puts : PutsAll keep old new count text after
  pub returns : HasLine (Returning name exit) after rest

-- So many bytes in front are a whole call, of so many lines, of which this is kept.
pub record StandsKept (keep : Choice) (at : Position) (text : List ℕ) (bytes lines : ℕ) (call : TextCall) : Type 0 where
  pub content : CallContent
  pub exit : Times
  pub stands : HasCall content call.enter exit text (drop bytes text)
  pub counted : lines ≡ lines_of content
  pub kept : call ≡ kept_call keep (call_after at content call.enter exit)
