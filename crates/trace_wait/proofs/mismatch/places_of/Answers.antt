use Rattle.std.proofs.Common.{◌||◌, ◌∙◌, ap}
use Rattle.std.specs.BTreeSet.{contains}
use Rattle.trace_wait.specs.declared.round.Round.{Round}
use Rattle.trace_wait.specs.Collectives.{is_mismatched_at}
use Rattle.trace_wait.specs.Patterns.{place_cmp}
use Rattle.trace_wait.proofs.Fronts.{any_more}
use Rattle.trace_wait.proofs.mismatch.places_of.Goals as goal

pub loop-round-preserved : goal.loop-round-preserved
loop-round-preserved c = λ r k.
    any_more (is_mismatched_at r k) c.args.rounds.now c.loop-round.round-index c.round-item.result _ _ c.loop-round-test.true (c.loop-round.invariant r k)
    (c.in_ok-note_round.ensures (r, k) ∙ ap (λ (x : Round). is_mismatched_at r k x || contains place_cmp c.loop-round.set (r, k)) c.round-item.is)
