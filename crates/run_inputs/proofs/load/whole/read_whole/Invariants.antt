use Rattle.std.proofs.Common.{◌≡◌, ◌+◌, ◌≤◌, ◌-◌, length}
use Rattle.std.specs.Io.KnownBytes.{Consumes}
use Rattle.run_inputs.proofs.load.whole.read_whole.Given as goal

abbrev pub invariant-loop-chunk : goal.invariant-loop-chunk
invariant-loop-chunk g l = record {
  short : length l.bytes.items ≤ l.most + 4096;
  taken : Consumes (g.R.Read.left l.fn.reader) (g.R.Read.left l.reader) l.bytes.items;
  no_failure : g.R.Read.failures l.reader ≡ g.R.Read.failures l.fn.reader;
}

abbrev pub decreases-loop-chunk : goal.decreases-loop-chunk
decreases-loop-chunk g l = l.most + 4096 - length l.bytes.items
