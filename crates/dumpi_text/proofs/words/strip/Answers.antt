use Rattle.dumpi_text.proofs.Fronts.{rest_of_strip}
use Rattle.dumpi_text.proofs.words.strip.Goals as goal

pub returns-then-begins_with-clause-rest : goal.returns-then-begins_with-clause-rest
returns-then-begins_with-clause-rest c = rest_of_strip c.args.front.now c.args.text.now (c.begins_with.ensures.there c.if-begins_with.true)
