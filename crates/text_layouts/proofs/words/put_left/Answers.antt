use Rattle.text_layouts.proofs.Adding.{reads, then}
use Rattle.text_layouts.proofs.words.put_left.Goals as goal

pub returns : goal.returns
returns c =
    then (then (then (then (then (then (then (then (then (then (then (then c.put.ensures c.put_number.ensures) c.put-2.ensures) c.put_number-2.ensures) c.put-3.ensures)
    c.put_function.ensures) c.put-4.ensures) c.put_given.ensures) c.put-5.ensures) c.put_number-3.ensures) c.put-6.ensures)
    (reads c.put-7.ensures c.why_text.ensures)) c.put-8.ensures
