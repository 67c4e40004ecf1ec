use Rattle.std.proofs.Common.{◌≡◌, take}
use Rattle.std.specs.List.{list_any}
use Rattle.std.specs.BTreeSet.{contains}
use Rattle.trace_wait.specs.Matching.{unpaired_messages}
use Rattle.trace_wait.specs.Patterns.{Pattern, pattern_cmp, offers}
use Rattle.trace_wait.proofs.unpaired.patterns_offered.Given as goal

abbrev pub invariant-loop-o : goal.invariant-loop-o
invariant-loop-o l = (p : Pattern) → contains pattern_cmp l.set p ≡ list_any (λ x. offers l.void x p) (unpaired_messages (take l.o-index l.ops) l.pairs.pairs)
