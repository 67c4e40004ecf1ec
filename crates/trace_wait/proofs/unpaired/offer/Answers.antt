use Rattle.std.proofs.Common.{◌∙◌, ◌||◌, ap}
use Rattle.std.specs.Ordering.{is_eq}
use Rattle.trace_wait.specs.Patterns.{pattern_cmp}
use Rattle.trace_wait.proofs.Keys.{any_tagged, from_any, from_tagged, offered_more}
use Rattle.trace_wait.proofs.unpaired.offer.Goals as goal

pub returns : goal.returns
returns c = λ p.
    let m = c.args.m.now in
    offered_more m p _ _ (c.in_ok-note-4.ensures p ∙ ap (λ b. is_eq (pattern_cmp (from_tagged m) p) || b)
    (c.in_ok-note-3.ensures p ∙ ap (λ b. is_eq (pattern_cmp (from_any m) p) || b)
    (c.in_ok-note-2.ensures p ∙ ap (λ b. is_eq (pattern_cmp (any_tagged m) p) || b) (c.in_ok-note.ensures p))))
