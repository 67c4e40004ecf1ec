use Rattle.std.proofs.Common.{◌≡◌, ◌-◌, List, None}
use Rattle.dumpi_text.specs.Call.{TextCall}
use Rattle.dumpi_calls.specs.Walks.{IsRead}
use Rattle.text_notes.specs.Values.{call_at}
use Rattle.text_notes.proofs.value.value_at.Given as goal

abbrev pub invariant-each : goal.invariant-each
invariant-each g l = (calls : List TextCall) × IsRead (g.R.Read.left l.fn.reader) calls l.texts × (call_at l.line calls ≡ None)

abbrev pub decreases-each : goal.decreases-each
decreases-each g l = 16777217 - l.texts.at.line
