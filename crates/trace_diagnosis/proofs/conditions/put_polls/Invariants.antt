use Rattle.std.proofs.Common.{◌≡◌, ◌-◌, List, drop, length, map, take}
use Rattle.std.specs.List.{flat_map}
use Rattle.trace_stuck.specs.Shape.{Wait, shape}
use Rattle.trace_diagnosis.specs.Askers.{ArePut}
use Rattle.trace_diagnosis.specs.declared.conditions.Poller.{Poller}
use Rattle.trace_diagnosis.proofs.conditions.put_polls.Given as goal

abbrev pub invariant-loop-behind : goal.invariant-loop-behind
invariant-loop-behind l = (f : Poller → List Wait) → ((p : Poller) → length (f p) ≡ length p.asked.items) → map shape l.fn.of_polls.items ≡ flat_map f l.pollers → record {
  rest : map shape l.rest.items ≡ flat_map f (take (length l.pollers - l.behind) l.pollers);
  put : ArePut f (drop (length l.pollers - l.behind) l.pollers) l.fn.of_ranks l.of_ranks;
}
