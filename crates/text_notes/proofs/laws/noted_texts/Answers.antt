use Rattle.text_notes.proofs.Walking.{collects_noted, stops_noted, tells_line, tells_needed, tells_noted}
use Rattle.text_notes.proofs.laws.noted_texts.Goals as goal

pub returns : goal.returns
returns c = record { collects = collects_noted; stops = stops_noted; tells = tells_noted; needs = tells_needed; line = tells_line }
