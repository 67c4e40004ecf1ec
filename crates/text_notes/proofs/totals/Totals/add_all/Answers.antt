use Rattle.std.proofs.Common.{◌∙◌, ◌∷◌, [], List, sym, ap, take}
use Rattle.text_notes.specs.Noted.{UnreadParts}
use Rattle.text_notes.specs.Words.{Totals as TotalParts, added, all_added}
use Rattle.text_notes.proofs.Found.{added_more}
use Rattle.text_notes.proofs.Lines.{take_next}
use Rattle.text_notes.proofs.totals.Totals.add_all.Goals as goal

pub loop-function-preserved : goal.loop-function-preserved
loop-function-preserved c =
    let i = c.loop-function.function-index in
    let fs = c.args.functions.now in
    let f = c.function-item.result in
    c.in_ok-add.ensures ∙ ap (λ (t : TotalParts). added t f) c.loop-function.invariant
    ∙ sym (added_more c.args.self.now (take i fs) (f ∷ []))
    ∙ ap (λ (l : List UnreadParts). all_added c.args.self.now l) (sym (take_next fs i f c.loop-function-test.true c.function-item.is))
