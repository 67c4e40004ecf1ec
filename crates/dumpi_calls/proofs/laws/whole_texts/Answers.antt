use Rattle.dumpi_calls.proofs.Whole.{collects_all, opens_last, tells_events}
use Rattle.dumpi_calls.proofs.laws.whole_texts.Goals as goal

pub returns : goal.returns
returns c = let law = c.calls_that_return.ensures in record { open_last = opens_last law; all = collects_all law; tells = tells_events law }
