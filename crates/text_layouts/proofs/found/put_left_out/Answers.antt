use Rattle.text_layouts.proofs.Putting.{one, reads, so_far, then, whole_array}
use Rattle.text_layouts.specs.Found.{left_value}
use Rattle.text_layouts.proofs.found.put_left_out.Goals as goal

pub returns : goal.returns
returns c =
    reads (then (so_far c.loop-left.invariant.before c.loop-left.invariant.put) (one c.end_array.ensures))
    (whole_array left_value c.args.left_out.now c.loop-left.left-index c.loop-left-test.false)
