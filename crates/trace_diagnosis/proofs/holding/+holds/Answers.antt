use Rattle.trace_diagnosis.specs.Holding.{going}
use Rattle.trace_diagnosis.proofs.Holds.{holds_Yes, holds_Rank, holds_Mismatched, holds_All, holds_One, holds_OneRank, holds_AllRanks}
use Rattle.trace_diagnosis.proofs.holding.+holds.Goals as goal

pub holds_by-returns-in-Yes : goal.holds_by-returns-in-Yes
holds_by-returns-in-Yes t c = let e = holds_Yes (going c.args.able.now) in cc (c.in-Yes.is)

pub holds_by-returns-in-Mismatched : goal.holds_by-returns-in-Mismatched
holds_by-returns-in-Mismatched t c = let e = holds_Mismatched (going c.args.able.now) c.in-Mismatched.field-0 in cc (c.in-Mismatched.is)

pub holds_by-returns-in-Rank : goal.holds_by-returns-in-Rank
holds_by-returns-in-Rank t c = let e = holds_Rank (going c.args.able.now) c.in-Rank.rank in cc (c.in-Rank.is, c.can.ensures)

pub holds_by-returns-in-All : goal.holds_by-returns-in-All
holds_by-returns-in-All t c = let e = holds_All (going c.args.able.now) c.in-All.parts in cc (c.in-All.is, c.deref.ensures.value, c.all_hold_by.ensures)

pub holds_by-returns-in-One : goal.holds_by-returns-in-One
holds_by-returns-in-One t c = let e = holds_One (going c.args.able.now) c.in-One.parts in cc (c.in-One.is, c.deref-in-One.ensures.value, c.some_hold_by.ensures)

pub holds_by-returns-in-OneRank : goal.holds_by-returns-in-OneRank
holds_by-returns-in-OneRank t c = let e = holds_OneRank (going c.args.able.now) c.in-OneRank.ranks in cc (c.in-OneRank.is, c.deref-in-OneRank.ensures, c.deref-in-OneRank-2.ensures.value, c.can_one.ensures)

pub holds_by-returns-in-AllRanks : goal.holds_by-returns-in-AllRanks
holds_by-returns-in-AllRanks t c = let e = holds_AllRanks (going c.args.able.now) c.in-AllRanks.ranks in cc (c.in-AllRanks.is, c.deref-in-AllRanks.ensures, c.deref-in-AllRanks-2.ensures.value, c.can_all.ensures)
