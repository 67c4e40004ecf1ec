use Rattle.std.proofs.Common.{◌∙◌}
use Rattle.trace_diagnosis.proofs.Halved.{found_by_halves}
use Rattle.trace_diagnosis.proofs.conditions.is_among.Goals as goal

pub returns : goal.returns
returns c = c.is_ok.ensures.value ∙ found_by_halves c.args.ranks.now c.args.rank c.binary_search.result c.requires c.binary_search.ensures.bound c.binary_search.ensures.position
