use Rattle.std.proofs.Common.{◌≡◌, ◌-◌, List}
use Rattle.dumpi_text.specs.Call.{TextCall}
use Rattle.dumpi_calls.specs.Walks.{IsRead}
use Rattle.text_cuts.specs.Cuts.{last_lacking}
use Rattle.text_cuts.proofs.end.end_of.Given as goal

abbrev pub invariant-each : goal.invariant-each
invariant-each g l = (calls : List TextCall) × IsRead (g.R.Read.left l.fn.reader) calls l.texts × (l.lacking ≡ last_lacking l.dropped calls)

abbrev pub decreases-each : goal.decreases-each
decreases-each g l = 16777217 - l.texts.at.line
