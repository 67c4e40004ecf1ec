use Rattle.std.proofs.Common.{◌∙◌, arith, sym}
use Rattle.trace_diagnosis.proofs.Found.{found_at}
use Rattle.trace_diagnosis.proofs.loose.is_of_at.Goals as goal

pub returns : goal.returns
returns c = λ h. found_at c.args.pairs.now c.args.place _ c.args.name (omega (arith, c.if-place-pairs.false)) (sym c.eq.ensures ∙ h)
