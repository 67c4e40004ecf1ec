use Rattle.std.proofs.Common.{◌≡◌, true, All}
use Rattle.std.specs.Prelude.{is_some}
use Rattle.trace_stuck.specs.Graph.{is_up, label_at}
use Rattle.trace_diagnosis.proofs.roots.held_outside.Given as goal

abbrev pub invariant-loop-rank : goal.invariant-loop-rank
invariant-loop-rank l = All (λ r. (is_up l.ranks.held.now r ≡ true) × (is_some (label_at l.labels r) ≡ true)) l.found.items
