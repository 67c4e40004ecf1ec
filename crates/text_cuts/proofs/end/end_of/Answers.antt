use Rattle.std.proofs.Common.{◌∙◌, ◌++◌, ◌∷◌, [], sym}
use Rattle.dumpi_text.specs.Shown.{put_in}
use Rattle.dumpi_calls.specs.Walks.{Follows, IsRead}
use Rattle.text_cuts.proofs.Ends.{lacking_more}
use Rattle.text_cuts.proofs.end.end_of.Goals as goal

pub each-preserved : goal.each-preserved
each-preserved g c =
    let text = g.R.Read.left c.args.reader in
    let inv = c.each.invariant in
    let raw = c.next_call.new.raw in
    let goes : Follows text inv.0 (put_in c.in-Ok-true.field-0 raw) c.next_call.new.texts = c.in-Ok-true.ensures.goes_on text inv.0 inv.1 in
    let read : IsRead text (inv.0 ++ raw ∷ []) c.next_call.new.texts = rw c.in-Ok-true.field-0-test at goes in
    (inv.0 ++ raw ∷ [], read, c.lacking_line-lacking.ensures ∙ sym (lacking_more c.args.dropped inv.0 raw))
