use Rattle.std.proofs.Common.{◌∙◌, sym, arith}
use Rattle.std.proofs.lemmas.List.{take_all}
use Rattle.trace_stuck.proofs.Kept.{equal_more}
use Rattle.trace_stuck.proofs.distinct.are_equal.Goals as goal

pub loop-i-preserved : goal.loop-i-preserved
loop-i-preserved c = (
  c.loop-i.invariant.0,
  λ h.
      let both = c.is_still_same-is_same.ensures h in
      equal_more c.args.first.now c.args.second.now c.loop-i.i c.loop-i-test.true c.loop-i.invariant.0 both.1 (c.loop-i.invariant.1 both.0),
)

pub returns : goal.returns
returns c = λ h.
    sym (take_all c.loop-i.i c.args.first.now (omega arith)) ∙ c.loop-i.invariant.1 h
    ∙ take_all c.loop-i.i c.args.second.now (omega (arith, c.loop-i.invariant.0))
