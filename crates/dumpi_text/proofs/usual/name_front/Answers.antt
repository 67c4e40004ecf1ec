use Rattle.std.proofs.Common.{arith}
use Rattle.std.proofs.lemmas.Grind.{common_steps}
use Rattle.dumpi_text.proofs.UsualLines.{word_is_one}
use Rattle.dumpi_text.proofs.usual.name_front.Goals as goal

pub returns-else-is_empty : goal.returns-else-is_empty
returns-else-is_empty c = word_is_one c.args.text.now c.split_word.result.0.now c.split_word.ensures.word (grind (arith, common_steps))
