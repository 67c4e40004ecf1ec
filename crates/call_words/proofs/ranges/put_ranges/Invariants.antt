use Rattle.std.proofs.Common.{◌≡◌, take, None}
use Rattle.call_words.specs.Texts.{Adds}
use Rattle.call_words.specs.Ranges.{range_after, text_of}
use Rattle.call_words.proofs.ranges.put_ranges.Given as goal

abbrev pub invariant-loop-rank : goal.invariant-loop-rank
invariant-loop-rank l = record {
  text : Adds l.fn.out l.out (text_of None (take l.rank-index l.ranks));
  held : l.held ≡ range_after None (take l.rank-index l.ranks);
}
