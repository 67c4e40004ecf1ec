use Rattle.run_files.specs.Values.{communicator_value}
use Rattle.run_files.proofs.Putting.{one, reads, so_far, then, whole_array}
use Rattle.run_files.proofs.write.layout.put_comms.Goals as goal

pub returns : goal.returns
returns c = reads (then (so_far c.loop-comm.invariant.before c.loop-comm.invariant.put) (one c.end_array.ensures)) (whole_array communicator_value c.args.comms.now c.loop-comm.comm-index c.loop-comm-test.false)
