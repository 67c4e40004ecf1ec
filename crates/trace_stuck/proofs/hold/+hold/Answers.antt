use Rattle.trace_stuck.proofs.Holds.{holds_All, holds_One, holds_OneRank, holds_AllRanks}
use Rattle.trace_stuck.proofs.hold.+hold.Goals as goal

pub does_hold-returns-in-All : goal.does_hold-returns-in-All
does_hold-returns-in-All g t c = let e = holds_All (g.A.Able.able c.args.able.now) c.in-All.all in cc (c.in-All.is, c.deref.ensures.value, c.does_each_hold.ensures)

pub does_hold-returns-in-One : goal.does_hold-returns-in-One
does_hold-returns-in-One g t c = let e = holds_One (g.A.Able.able c.args.able.now) c.in-One.all in cc (c.in-One.is, c.deref-in-One.ensures.value, c.does_some_hold.ensures)

pub does_hold-returns-in-OneRank : goal.does_hold-returns-in-OneRank
does_hold-returns-in-OneRank g t c = let e = holds_OneRank (g.A.Able.able c.args.able.now) c.in-OneRank.ranks in cc (c.in-OneRank.is, c.deref-in-OneRank.ensures, c.deref-in-OneRank-2.ensures.value, c.can_some_go.ensures)

pub does_hold-returns-in-AllRanks : goal.does_hold-returns-in-AllRanks
does_hold-returns-in-AllRanks g t c = let e = holds_AllRanks (g.A.Able.able c.args.able.now) c.in-AllRanks.ranks in cc (c.in-AllRanks.is, c.deref-in-AllRanks.ensures, c.deref-in-AllRanks-2.ensures.value, c.can_each_go.ensures)
