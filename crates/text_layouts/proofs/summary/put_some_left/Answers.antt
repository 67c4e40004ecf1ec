use Rattle.text_layouts.proofs.Adding.{then}
use Rattle.text_layouts.proofs.summary.put_some_left.Goals as goal

pub returns : goal.returns
returns c = then (then c.put.ensures c.put_number.ensures) c.put-2.ensures
