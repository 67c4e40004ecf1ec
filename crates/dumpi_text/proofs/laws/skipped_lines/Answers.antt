use Rattle.dumpi_text.proofs.Skips.{tells_first_skipped}
use Rattle.dumpi_text.proofs.laws.skipped_lines.Goals as goal

pub returns : goal.returns
returns c = tells_first_skipped
