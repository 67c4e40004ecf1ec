use Rattle.std.proofs.Common.{sym, ◌∙◌}
use Rattle.trace_ops.specs.Called.{plain_called}
use Rattle.trace_ops.proofs.Behind.{follows_firsts}
use Rattle.trace_ops.specs.Tables.{kept_of}
use Rattle.trace_ops.proofs.touched.note_done.Goals as goal

pub returns-in_ok-note_firsts : goal.returns-in_ok-note_firsts
returns-in_ok-note_firsts c quiet calls at later f =
    follows_firsts calls c.args.n (plain_called c.args.called.now) later (kept_of c.args.touched.now) (kept_of c.note_firsts.new.touched) quiet at
    (sym c.is_any_cancelled.ensures ∙ c.if-is_any_cancelled.false) c.in_ok-note_firsts.ensures f
