use Rattle.std.proofs.Common.{ap, decimal}
use Rattle.text_notes.specs.Words.{first_skipped_text}
use Rattle.text_notes.proofs.Adding.{then, reads}
use Rattle.text_notes.proofs.words.put_skipped.Goals as goal

pub returns : goal.returns
returns c =
    then (then (then (then (then c.put.ensures (reads c.put-2.ensures c.file.ensures)) c.put-3.ensures) (reads c.put_number.ensures (ap decimal c.skipped.ensures)))
    (reads c.put_first_skipped.ensures (ap first_skipped_text c.first_skipped.ensures))) c.put-4.ensures
