use Rattle.std.proofs.Common.{sym}
use Rattle.text_layouts.specs.Words.{left_text}
use Rattle.text_layouts.proofs.Adding.{reads, then}
use Rattle.text_layouts.proofs.Lines.{lines_next}
use Rattle.text_layouts.proofs.words.put_each_left.Goals as goal

pub loop-left-preserved : goal.loop-left-preserved
loop-left-preserved c =
    reads (then c.loop-left.invariant c.put_left.ensures) (sym (lines_next left_text c.args.left_out.now c.loop-left.left-index _ c.loop-left-test.true))
