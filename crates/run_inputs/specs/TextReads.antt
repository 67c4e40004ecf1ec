-- What a thread reads of the text of a rank.
use Rattle.std.specs.Prelude.{ℕ, List, Option, None, String, IfErr, IfOk, get_or}
use Rattle.std.specs.declared.alloc.Global.{Global}
use Rattle.text_layouts.specs.Seats.{kept}
use Rattle.run_inputs.specs.TextCalls.{RefusesAt, SaysAt}
use Rattle.run_inputs.specs.declared.load.text_reads.TextRead.{TextRead}

-- the name of the text of a rank, where it has one
abbrev pub text_of_rank : List (Option (String Global)) → ℕ → Option (List ℕ)
text_of_rank seats rank = get_or (kept seats) rank None

-- The text of a rank, where it has one, was read: it says this, or it is refused.
pub record IsTextRead (file : List ℕ → Option (List ℕ)) (text : Option (List ℕ)) (read : TextRead) : Type 0 where
  pub ok : IfOk read.calls (λ calls. SaysAt file text calls.0 calls.1)
  pub err : IfErr read.calls (RefusesAt file text)
