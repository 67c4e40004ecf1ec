use Rattle.run_files.specs.Values.{number_of}
use Rattle.run_files.proofs.Putting.{one, reads, so_far, then, whole_array}
use Rattle.run_files.proofs.write.values.put_numbers.Goals as goal

pub returns : goal.returns
returns c = reads (then (so_far c.loop-number.invariant.before c.loop-number.invariant.put) (one c.end_array.ensures)) (whole_array number_of c.args.numbers.now c.loop-number.number-index c.loop-number-test.false)
