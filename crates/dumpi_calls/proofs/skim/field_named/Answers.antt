use Rattle.dumpi_calls.proofs.FieldByField.{word_there}
use Rattle.dumpi_calls.proofs.skim.field_named.Goals as goal

pub returns-clause-there : goal.returns-clause-there
returns-clause-there c = word_there c.args.word.now c.args.text.now c.in_ok-rest.rest.now c.in_ok-rest.ensures.whole
