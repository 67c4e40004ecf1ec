use Rattle.std.proofs.Common.{arith}
use Rattle.std.proofs.lemmas.Bool.Decides.{nat_tests}
use Rattle.trace_pair.proofs.ranked_ends.RankedEnds.may_be_of.Goals as goal

pub returns : goal.returns
returns c = λ h opened s u i e. let b = s.below u i in grind (arith, nat_tests)
