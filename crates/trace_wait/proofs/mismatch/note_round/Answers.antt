use Rattle.std.proofs.Common.{◌∙◌, sym}
use Rattle.trace_wait.proofs.Keys.{round_noted, round_passed}
use Rattle.trace_wait.proofs.mismatch.note_round.Goals as goal

pub returns-then-not-is_mismatch : goal.returns-then-not-is_mismatch
returns-then-not-is_mismatch c = λ place. round_passed c.args.round.now place.0 place.1 _ (sym c.is_mismatch.ensures ∙ c.if-not-is_mismatch.true)

pub returns : goal.returns
returns c = λ place. round_noted c.args.round.now place.0 place.1 _ _ (sym c.is_mismatch.ensures ∙ c.if-not-is_mismatch.false) (c.in_ok-note.ensures place)
