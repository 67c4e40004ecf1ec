use Rattle.std.proofs.Common.{◌≡◌, filter}
use Rattle.std.specs.List.{range_with_len}
use Rattle.trace_diagnosis.specs.Roots.{is_labelled}
use Rattle.trace_diagnosis.proofs.roots.members.Given as goal

abbrev pub invariant-loop-rank : goal.invariant-loop-rank
invariant-loop-rank l = l.found.items ≡ filter (is_labelled l.labels l.least) (range_with_len 0 l.rank)
