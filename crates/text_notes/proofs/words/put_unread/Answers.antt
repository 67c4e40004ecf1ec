use Rattle.std.proofs.Common.{◌≡◌, ap, decimal}
use Rattle.text_notes.specs.Noted.{sum_of}
use Rattle.text_notes.specs.Words.{name_text}
use Rattle.text_notes.proofs.Adding.{then, reads}
use Rattle.text_notes.proofs.words.put_unread.Goals as goal

pub returns : goal.returns
returns c =
    let number : c.saturating_add.result ≡ sum_of c.args.note.now.first c.args.function.now.first = cc in
    then (then (then (then (then (then (then (then c.put.ensures (reads c.put_number.ensures (ap decimal c.rank.ensures))) c.put-2.ensures)
    (reads c.put_number-2.ensures (ap decimal number))) c.put-3.ensures) (reads c.put_name.ensures (ap name_text c.name.ensures))) c.put-4.ensures)
    (reads c.put-5.ensures c.file.ensures)) c.put-6.ensures
