use Rattle.std.proofs.Common.{◌≡◌, ◌||◌, take}
use Rattle.std.specs.Prelude.{filter}
use Rattle.std.specs.List.{list_any}
use Rattle.std.specs.BTreeSet.{contains}
use Rattle.trace_wait.specs.Matching.{is_unpaired_message}
use Rattle.trace_wait.specs.Patterns.{Pattern, pattern_cmp, offers}
use Rattle.trace_wait.proofs.unpaired.offer_all.Given as goal

abbrev pub invariant-loop-m : goal.invariant-loop-m
invariant-loop-m l = (p : Pattern) → contains pattern_cmp l.set p ≡ (list_any (λ x. offers l.void x p) (filter (is_unpaired_message l.pairs.pairs) (take l.m-index l.sends)) || contains pattern_cmp l.fn.set p)
