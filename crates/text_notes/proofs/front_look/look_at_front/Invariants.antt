use Rattle.std.proofs.Common.{◌≡◌, ◌≤◌, ◌-◌, List}
use Rattle.dumpi_text.specs.Call.{TextCall}
use Rattle.dumpi_calls.specs.Walks.{IsRead}
use Rattle.text_notes.specs.FrontLooks.{front_from, no_front}
use Rattle.text_notes.proofs.front_look.look_at_front.Given as goal

abbrev pub invariant-each : goal.invariant-each
invariant-each g l = (raws : List TextCall) × IsRead (g.R.Read.left l.fn.reader) raws l.texts × (l.look ≡ front_from l.wanted no_front raws) × (l.look.calls ≤ l.most)

abbrev pub decreases-each : goal.decreases-each
decreases-each g l = 16777217 - l.texts.at.line
