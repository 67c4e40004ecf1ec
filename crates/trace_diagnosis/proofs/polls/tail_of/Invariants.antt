use Rattle.std.proofs.Common.{◌≡◌, ◌≤◌, ◌+◌}
use Rattle.trace_diagnosis.specs.Called.{count_of}
use Rattle.trace_diagnosis.specs.Tails.{first_from, polls_from, stands_in, tail_first}
use Rattle.trace_diagnosis.proofs.polls.tail_of.Given as goal

abbrev pub invariant-back : goal.invariant-back
invariant-back l = record {
  first : first_from (stands_in l.events) l.first ≡ tail_first l.events;
  count : l.count ≡ polls_from l.events l.first;
  few : l.count + l.first ≤ count_of l.events;
}

abbrev pub decreases-back : goal.decreases-back
decreases-back l = l.first
