use Rattle.std.proofs.Common.{ap}
use Rattle.text_layouts.specs.Words.{comms_text, left_out_text}
use Rattle.text_layouts.proofs.Adding.{reads, then}
use Rattle.text_layouts.proofs.words.put_notes.Goals as goal

pub returns : goal.returns
returns c = then (then c.put_counts.ensures (reads c.put_comms.ensures (ap comms_text c.deref.ensures.value))) (reads c.put_left_out.ensures (ap left_out_text c.deref-2.ensures.value))
