use Rattle.std.proofs.Common.{◌∙◌, List, sym, ap, take}
use Rattle.std.specs.List.{flat_map}
use Rattle.text_notes.specs.Noted.{UnreadParts}
use Rattle.text_notes.specs.Words.{Totals as TotalParts, all_added, no_totals, unread_of}
use Rattle.text_notes.proofs.Found.{added_more}
use Rattle.text_notes.proofs.Lines.{lines_item}
use Rattle.text_notes.proofs.totals.totals_of.Goals as goal

pub loop-note-preserved : goal.loop-note-preserved
loop-note-preserved c =
    let i = c.loop-note.note-index in
    let notes = c.args.notes.now in
    let note = c.note-item.result in
    c.in_ok-add_all.ensures ∙ ap (λ (l : List UnreadParts). all_added c.loop-note.totals l) c.unread.ensures
    ∙ ap (λ (t : TotalParts). all_added t note.unread) c.loop-note.invariant
    ∙ sym (added_more no_totals (flat_map unread_of (take i notes)) note.unread)
    ∙ ap (λ (l : List UnreadParts). all_added no_totals l) (sym (lines_item unread_of notes i note c.loop-note-test.true c.note-item.is))
