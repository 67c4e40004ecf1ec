use Rattle.text_layouts.proofs.Adding.{then}
use Rattle.text_layouts.proofs.summary.put_lost.Goals as goal

pub returns : goal.returns
returns c = then (then c.put_missing.ensures c.put_left_count.ensures) c.put.ensures
