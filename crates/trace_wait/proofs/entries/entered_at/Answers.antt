use Rattle.std.proofs.Common.{◌∙◌, ap, slice_get, sym}
use Rattle.trace_wait.proofs.Before.{calls_rise, found_it, found_none, found_other}
use Rattle.trace_wait.proofs.entries.entered_at.Goals as goal

pub count_before-requires : goal.count_before-requires
count_before-requires c = calls_rise c.args.entries.now c.requires

pub returns-then-entered-n : goal.returns-then-entered-n
returns-then-entered-n c =
    found_it c.args.n c.args.entries.now c.requires c.in-Some.entered
    (sym (c.in-Some.ensures ∙ ap (slice_get c.args.entries.now) c.count_before.ensures)) c.if-entered-n.true

pub returns-else-entered-n : goal.returns-else-entered-n
returns-else-entered-n c =
    found_other c.args.n c.args.entries.now c.requires c.in-Some.entered
    (sym (c.in-Some.ensures ∙ ap (slice_get c.args.entries.now) c.count_before.ensures)) c.if-entered-n.false

pub returns-in-None : goal.returns-in-None
returns-in-None c =
    found_none c.args.n c.args.entries.now c.requires (sym (c.in-None.ensures ∙ ap (slice_get c.args.entries.now) c.count_before.ensures))
