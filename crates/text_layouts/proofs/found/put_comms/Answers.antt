use Rattle.text_layouts.proofs.Putting.{one, reads, so_far, then, whole_array}
use Rattle.text_layouts.specs.Found.{comm_value}
use Rattle.text_layouts.proofs.found.put_comms.Goals as goal

pub returns : goal.returns
returns c =
    reads (then (so_far c.loop-comm.invariant.before c.loop-comm.invariant.put) (one c.end_array.ensures))
    (whole_array (comm_value c.args.world) c.args.comms.now c.loop-comm.comm-index c.loop-comm-test.false)
