use Rattle.std.proofs.Common.{◌≡◌, ◌<◌, ℕ, All, map, take}
use Rattle.std.specs.List.{flat_map}
use Rattle.trace_diagnosis.specs.Askers.{poll_plain, polls_by}
use Rattle.trace_diagnosis.proofs.conditions.polls_of.Given as goal

abbrev pub invariant-loop-poller : goal.invariant-loop-poller
invariant-loop-poller l = record {
  there : (count : ℕ) → All (λ p. p.rank < count) l.pollers → All (λ p. p.rank < count) l.polls.items;
  polls : map poll_plain l.polls.items ≡ flat_map polls_by (take l.poller-index l.pollers);
}
