use Rattle.std.proofs.Common.{◌≡◌, ℕ, [], take}
use Rattle.std.specs.Prelude.{◌==◌, if◌then◌else◌}
use Rattle.std.specs.List.{flat_map}
use Rattle.trace_diagnosis.specs.Askers.{asker}
use Rattle.trace_diagnosis.specs.Listed.{listed_of}
use Rattle.trace_diagnosis.specs.Starving.{polled_by}
use Rattle.trace_diagnosis.proofs.candidates.polled_of.Given as goal

abbrev pub invariant-loop-poller : goal.invariant-loop-poller
invariant-loop-poller l = (r : ℕ) → listed_of l.polled r ≡ flat_map (λ p. if p.rank == r then polled_by l.layout (asker p) else []) (take l.poller-index l.pollers)
