use Rattle.std.proofs.Common.{sym}
use Rattle.text_notes.specs.Words.{next_text}
use Rattle.text_notes.proofs.Adding.{then, reads}
use Rattle.text_notes.proofs.Lines.{lines_item}
use Rattle.text_notes.proofs.words.put_each_next.Goals as goal

pub loop-function-preserved : goal.loop-function-preserved
loop-function-preserved c =
    reads (then c.loop-function.invariant c.put_next.ensures) (sym (lines_item next_text c.args.functions.now c.loop-function.function-index c.function-item.result c.loop-function-test.true c.function-item.is))
