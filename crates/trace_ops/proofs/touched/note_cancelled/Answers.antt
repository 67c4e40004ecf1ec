use Rattle.trace_ops.specs.Called.{plain_called}
use Rattle.trace_ops.proofs.Behind.{follows_completed}
use Rattle.trace_ops.specs.Tables.{kept_of}
use Rattle.trace_ops.proofs.touched.note_cancelled.Goals as goal

pub returns : goal.returns
returns c quiet calls at later f =
    follows_completed calls c.args.n (plain_called c.args.called.now) later (kept_of c.args.touched.now) (kept_of c.note_tellings.new.touched) quiet at
    (kept_of c.note_completed.new.touched) c.in_ok-note_completed.ensures c.in_ok-note_tellings.ensures f
