use Rattle.std.proofs.Common.{◌∙◌, ◌||◌, ap}
use Rattle.std.specs.BTreeSet.{contains}
use Rattle.std.specs.Ordering.{is_eq}
use Rattle.trace_wait.specs.Patterns.{Pattern, pattern_cmp, pattern_of}
use Rattle.trace_diagnosis.proofs.Listing.{any_first}
use Rattle.trace_diagnosis.proofs.listed.asked_of.Goals as goal

pub loop-q-preserved : goal.loop-q-preserved
loop-q-preserved c = λ p.
    any_first (λ q. is_eq (pattern_cmp (pattern_of q) p)) c.args.receives.now c.loop-q.q-index _ _ _ c.loop-q-test.true (c.loop-q.invariant p)
    (c.in_ok-note.ensures p ∙ ap (λ (k : Pattern). is_eq (pattern_cmp k p) || contains pattern_cmp c.loop-q.asked p) c.pattern_of.ensures)
