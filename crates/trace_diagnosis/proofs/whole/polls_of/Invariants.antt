use Rattle.std.proofs.Common.{◌≡◌, map, take}
use Rattle.trace_diagnosis.specs.Askers.{asker, poller_plain}
use Rattle.trace_diagnosis.specs.Conditions.{asker_told}
use Rattle.trace_diagnosis.specs.Tails.{polling_told}
use Rattle.trace_diagnosis.proofs.whole.polls_of.Given as goal

abbrev pub invariant-loop-poller : goal.invariant-loop-poller
invariant-loop-poller l = record {
  polls : map asker_told l.polls.items ≡ map asker (take l.poller-index l.pollers);
  counts : map polling_told l.polls.items ≡ map poller_plain (take l.poller-index l.pollers);
}
