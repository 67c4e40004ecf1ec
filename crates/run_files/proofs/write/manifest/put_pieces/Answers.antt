use Rattle.run_files.specs.Values.{piece_value}
use Rattle.run_files.proofs.Putting.{one, reads, so_far, then, whole_array}
use Rattle.run_files.proofs.write.manifest.put_pieces.Goals as goal

pub returns : goal.returns
returns c = reads (then (so_far c.loop-text.invariant.before c.loop-text.invariant.put) (one c.end_array.ensures)) (whole_array piece_value c.args.texts.now c.loop-text.text-index c.loop-text-test.false)
