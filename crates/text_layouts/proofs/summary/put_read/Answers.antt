use Rattle.text_layouts.proofs.Adding.{then}
use Rattle.text_layouts.proofs.summary.put_read.Goals as goal

pub returns : goal.returns
returns c = then c.put_counted.ensures c.put_counted-2.ensures
