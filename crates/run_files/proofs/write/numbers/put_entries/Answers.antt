use Rattle.run_files.specs.Values.{entry_value}
use Rattle.run_files.proofs.Putting.{one, reads, so_far, then, whole_array}
use Rattle.run_files.proofs.write.numbers.put_entries.Goals as goal

pub returns : goal.returns
returns c = reads (then (so_far c.loop-entry.invariant.before c.loop-entry.invariant.put) (one c.end_array.ensures)) (whole_array entry_value c.args.entries.now c.loop-entry.entry-index c.loop-entry-test.false)
