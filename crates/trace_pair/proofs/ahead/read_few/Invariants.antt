use Rattle.std.proofs.Common.{◌≡◌, length}
use Rattle.trace_pair.specs.Waiting.{AreAhead}
use Rattle.trace_pair.proofs.ahead.read_few.Given as goal

abbrev pub invariant-loop-more : goal.invariant-loop-more
invariant-loop-more l = record {
  ahead : AreAhead l.messages l.from l.takers.items;
  long : length l.takers.items ≡ l.more;
}
