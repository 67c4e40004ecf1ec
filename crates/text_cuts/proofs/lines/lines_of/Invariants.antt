use Rattle.std.proofs.Common.{◌-◌}
use Rattle.text_cuts.proofs.Counting.{Counted}
use Rattle.text_cuts.proofs.lines.lines_of.Given as goal

abbrev pub invariant-loop-lines : goal.invariant-loop-lines
invariant-loop-lines g l = record {
  counted : Counted l.count (g.R.Read.left l.fn.reader) (g.R.Read.left l.reader) l.lines.bytes l.lines.missing;
}

abbrev pub decreases-loop-lines : goal.decreases-loop-lines
decreases-loop-lines g l = l.most - l.lines.bytes
