use Rattle.dumpi_text.specs.Shown.{put_in}
use Rattle.text_notes.proofs.Values.{follows, refused_so}
use Rattle.text_notes.proofs.value.next_call.Goals as goal

pub returns-in-Ok-clause-goes_on : goal.returns-in-Ok-clause-goes_on
returns-in-Ok-clause-goes_on g c = λ text calls read.
    follows text calls (put_in c.in-Ok.found c.next_call.new.raw) c.next_call.new.texts (c.in-Ok.ensures.goes_on text calls read)

pub returns-in-Line-clause-goes_on : goal.returns-in-Line-clause-goes_on
returns-in-Line-clause-goes_on g c = λ text calls read.
    refused_so text calls c.in-Err.fault c.in-At.cause _ c.in-Line.field-0 c.next_call.new.texts c.in-At.is c.in-Line.is (c.in-Err.ensures.stops text calls read)
