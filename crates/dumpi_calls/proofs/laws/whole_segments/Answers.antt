use Rattle.dumpi_calls.proofs.Facts.{segments_tell_all}
use Rattle.dumpi_calls.proofs.laws.whole_segments.Goals as goal

pub returns : goal.returns
returns c = segments_tell_all
