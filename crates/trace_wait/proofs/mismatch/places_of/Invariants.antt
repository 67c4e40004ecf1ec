use Rattle.std.proofs.Common.{◌≡◌, ℕ, take}
use Rattle.std.specs.List.{list_any}
use Rattle.std.specs.BTreeSet.{contains}
use Rattle.trace_wait.specs.Patterns.{place_cmp}
use Rattle.trace_wait.specs.Collectives.{is_mismatched_at}
use Rattle.trace_wait.proofs.mismatch.places_of.Given as goal

abbrev pub invariant-loop-round : goal.invariant-loop-round
invariant-loop-round l = (c k : ℕ) → contains place_cmp l.set (c, k) ≡ list_any (is_mismatched_at c k) (take l.round-index l.rounds)
