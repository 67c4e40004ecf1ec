use Rattle.std.proofs.Common.{sym}
use Rattle.text_layouts.specs.Words.{comm_text}
use Rattle.text_layouts.proofs.Adding.{then, reads}
use Rattle.text_layouts.proofs.Lines.{lines_item}
use Rattle.text_layouts.proofs.words.put_each_comm.Goals as goal

pub loop-comm-preserved : goal.loop-comm-preserved
loop-comm-preserved c =
    reads (then c.loop-comm.invariant c.put_comm.ensures) (sym (lines_item comm_text c.args.comms.now c.loop-comm.comm-index c.comm-item.result c.loop-comm-test.true c.comm-item.is))
