use Rattle.std.proofs.Common.{◌∙◌, sym}
use Rattle.trace_diagnosis.proofs.Fronting.{with_open, without_other}
use Rattle.trace_diagnosis.proofs.starved.add_open.Goals as goal

pub returns-then-not-is_open : goal.returns-then-not-is_open
returns-then-not-is_open c = λ before last. without_other before c.args.q.now _ (sym c.is_open.ensures ∙ c.if-not-is_open.true) last

pub returns : goal.returns
returns c = λ before last. with_open before c.args.q.now _ (sym c.is_open.ensures ∙ c.if-not-is_open.false) (c.in_ok-insert.ensures.more before last)
