use Rattle.std.proofs.Common.{sym}
use Rattle.text_notes.specs.Words.{byte_text}
use Rattle.text_notes.proofs.Adding.{then, reads}
use Rattle.text_notes.proofs.Lines.{lines_next}
use Rattle.text_notes.proofs.words.put_name.Goals as goal

pub loop-byte-preserved : goal.loop-byte-preserved
loop-byte-preserved c =
    reads (then c.loop-byte.invariant c.put_byte.ensures) (sym (lines_next byte_text c.args.name.now c.loop-byte.byte-index _ c.loop-byte-test.true))
