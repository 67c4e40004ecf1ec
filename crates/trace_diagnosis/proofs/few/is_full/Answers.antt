use Rattle.std.proofs.Common.{◌≤◌, arith, filter, leb-true, length}
use Rattle.trace_diagnosis.specs.Fewest.{has_value}
use Rattle.trace_diagnosis.proofs.Fewest.{full_of_all, full_of_value}
use Rattle.trace_diagnosis.proofs.few.is_full.Goals as goal

pub returns-then-count_of-ge-MOST_NEAR-clause-full : goal.returns-then-count_of-ge-MOST_NEAR-clause-full
returns-then-count_of-ge-MOST_NEAR-clause-full c = λ _.
    let three : 3 ≤ length (filter (has_value c.args.value) c.args.things.now) = grind (arith, c.count_of.ensures, c.if-count_of-ge-MOST_NEAR.true) in
    full_of_value c.args.value c.args.things.now three

pub returns-clause-full : goal.returns-clause-full
returns-clause-full c = λ six. full_of_all c.args.value c.args.things.now c.requires (leb-true 6 _ six)
