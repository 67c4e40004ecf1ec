use Rattle.trace_report.proofs.Printing.{then, reads}
use Rattle.trace_report.proofs.json.ranks.put_fields.Goals as goal

pub returns : goal.returns
returns g c =
    let before = then (then (then (then (then c.put.ensures (c.put_number.ensures)) (c.put-2.ensures)) (c.put_number-2.ensures)) (c.put-3.ensures)) (reads c.put-4.ensures c.state_word.ensures) in
    then (then (then (then (then before (c.put-5.ensures)) (reads c.put-6.ensures c.bool_text.ensures)) (c.put-7.ensures)) (reads c.put-8.ensures c.bool_text-2.ensures)) (c.put-9.ensures)
