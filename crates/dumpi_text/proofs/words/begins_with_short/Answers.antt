use Rattle.dumpi_text.proofs.QuickParam.{whole_at_end}
use Rattle.dumpi_text.proofs.words.begins_with_short.Goals as goal

pub returns-clause-there : goal.returns-clause-there
returns-clause-there c = λ _. whole_at_end c.loop-at.at c.args.front.now c.args.text.now c.loop-at.invariant c.loop-at-test.false c.loop-at.auto.at-end
