use Rattle.trace_pair.proofs.Certain.{certain}
use Rattle.trace_pair.proofs.laws.pairs_are_certain.Goals as goal

pub returns : goal.returns
returns c = λ after ms qs more_after more_ms more_qs couple goes legal m q i j h. certain after ms qs more_after more_ms more_qs goes couple legal m q i j h
