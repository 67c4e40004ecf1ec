use Rattle.std.proofs.Common.{◌≡◌, ◌<◌, ◌++◌, ℕ, All, map, take}
use Rattle.trace_diagnosis.specs.Askers.{asked_plain, poll_plain}
use Rattle.trace_diagnosis.proofs.conditions.push_polls.Given as goal

abbrev pub invariant-loop-one : goal.invariant-loop-one
invariant-loop-one l = record {
  there : (count : ℕ) → l.rank < count → All (λ p. p.rank < count) l.fn.polls.items → All (λ p. p.rank < count) l.polls.items;
  polls : map poll_plain l.polls.items ≡ map poll_plain l.fn.polls.items ++ map (λ a. (l.rank, asked_plain a)) (take l.one-index l.asked);
}
