use Rattle.std.proofs.Common.{List, ap, length}
use Rattle.comm_makings.specs.declared.answer.LeftOut.{LeftOut}
use Rattle.text_layouts.specs.Summary.{lost_text, made_text}
use Rattle.text_layouts.proofs.Adding.{reads, then}
use Rattle.text_layouts.proofs.summary.put_summary.Goals as goal

pub returns : goal.returns
returns c =
    then (then c.put_read.ensures (reads c.put_made.ensures (ap made_text c.deref.ensures.value)))
    (reads c.put_lost.ensures (ap (λ (l : List LeftOut). lost_text c.args.missing.now (length l)) c.deref-2.ensures.value))
