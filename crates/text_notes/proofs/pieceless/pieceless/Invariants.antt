use Rattle.std.proofs.Common.{◌≡◌, filter, take}
use Rattle.text_notes.specs.Words.{has_no_text}
use Rattle.text_notes.proofs.pieceless.pieceless.Given as goal

abbrev pub invariant-loop-rank : goal.invariant-loop-rank
invariant-loop-rank l = l.ranks.items ≡ filter (has_no_text l.notes) (take l.rank-index l.unknown)
