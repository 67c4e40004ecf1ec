-- Calls as the code has them.
use Rattle.std.specs.Prelude.{Option, List}
use Rattle.std.specs.Option.{option_copied}
use Rattle.trace_ops.specs.declared.called.Called.{Called}
use Rattle.trace_ops.specs.declared.completed.Completed.{Completed}
use Rattle.trace_ops.specs.Calls.{Entry}
use Rattle.trace_ops.specs.Places.{places_of}

-- a call that is lent, as plain data
abbrev pub plain_called : Called → Entry
plain_called c = record { call = c.call.now; outs = option_copied c.outs }

-- what each place of its outcome completes
abbrev pub places_by : Called → List (Option Completed)
places_by c = places_of c.call.now (option_copied c.outs)
