use Rattle.std.proofs.Common.{◌≡◌, ◌++◌, filter, take}
use Rattle.std.specs.BTreeSet.{contains}
use Rattle.trace_pair.specs.KeyOrders.{name_cmp}
use Rattle.trace_diagnosis.specs.Starving.{may_starve}
use Rattle.trace_diagnosis.proofs.candidates.push_receives.Given as goal

abbrev pub invariant-loop-q : goal.invariant-loop-q
invariant-loop-q l = l.found.items ≡ l.fn.found.items ++ filter (may_starve (contains name_cmp l.pending) l.pairs) (take l.q-index l.receives)
