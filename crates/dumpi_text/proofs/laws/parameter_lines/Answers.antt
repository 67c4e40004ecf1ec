use Rattle.dumpi_text.proofs.UsualLines.{parts_tell}
use Rattle.dumpi_text.proofs.laws.parameter_lines.Goals as goal

pub returns : goal.returns
returns c = parts_tell
