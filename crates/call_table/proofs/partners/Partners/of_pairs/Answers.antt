use Rattle.std.proofs.Common.{List, subst, sym}
use Rattle.trace_pair.specs.Searched.{ArePairs}
use Rattle.trace_pair.specs.declared.pair.Pair.{Pair}
use Rattle.call_table.proofs.partners.Partners.of_pairs.Goals as goal

pub invariant_of-result : goal.invariant_of-result
invariant_of-result c = subst (λ (l : List Pair). ArePairs l) (sym c.in_ok-by_receive.ensures) c.requires
