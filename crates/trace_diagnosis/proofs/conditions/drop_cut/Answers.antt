use Rattle.std.proofs.Common.{◌∙◌, Bool, None, ap, arith, if◌then◌else◌, set}
use Rattle.trace_diagnosis.specs.Askers.{shapes}
use Rattle.trace_diagnosis.specs.Conditions.{has_gone_on}
use Rattle.trace_diagnosis.proofs.Putting.{dropped_more}
use Rattle.trace_diagnosis.proofs.conditions.drop_cut.Goals as goal

pub loop-rank-preserved : goal.loop-rank-preserved
loop-rank-preserved c =
    let n = c.loop-rank.rank in
    let ws = shapes c.loop-rank.of_ranks in
    dropped_more (has_gone_on c.args.know.now c.args.cut.now c.args.stuck.now) n c.args.of_ranks.now c.loop-rank.of_ranks c.drop_at.new.of_ranks
    (omega (arith, c.loop-rank-test.true, c.requires.all)) c.loop-rank.invariant
    (c.drop_at.ensures ∙ ap (λ (b : Bool). if b then set ws n None else ws) c.has_gone_on.ensures)
