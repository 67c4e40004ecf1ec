use Rattle.std.proofs.Common.{◌-◌}
use Rattle.call_table.proofs.text.RankTexts.reading.Given as goal

abbrev pub decreases-each : goal.decreases-each
decreases-each g l = 16777217 - l.texts.at.line
