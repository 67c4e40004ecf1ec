use Rattle.std.proofs.Common.{◌≡◌, true}
use Rattle.trace_pair.proofs.Beside.{legal_beside, beside_legal}
use Rattle.trace_pair.proofs.laws.doubtful_may_stand_outside.Goals as goal

pub returns-clause-legal : goal.returns-clause-legal
returns-clause-legal c = λ after ms qs couple unsent unposted l. legal_beside after ms qs (λ m q. couple m q ≡ true) (λ m. unsent m ≡ true) (λ q. unposted q ≡ true) l

pub returns-clause-beside : goal.returns-clause-beside
returns-clause-beside c = λ after ms qs couple l. beside_legal after ms qs couple l
