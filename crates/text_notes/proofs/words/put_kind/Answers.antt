use Rattle.std.proofs.Common.{◌≡◌, ◌∙◌, ◌+◌, [], ℕ, List, cond, nat_lt, length, take, sym, ap, subst, arith}
use Rattle.std.specs.List.{flat_map}
use Rattle.call_words.specs.declared.text.Text.{Text}
use Rattle.call_words.specs.Texts.{Adds}
use Rattle.text_notes.specs.Words.{NoteParts, has_kind, line_text, of_kind}
use Rattle.text_notes.specs.declared.totals.TheConstants.{MOST_SHOWN}
use Rattle.text_notes.proofs.Adding.{then, reads}
use Rattle.text_notes.proofs.Lines.{counted_more, filter_less, shown_more}
use Rattle.text_notes.proofs.words.put_kind.Goals.{then-has_kind, else-has_kind}
use Rattle.text_notes.proofs.words.put_kind.Goals as goal

pub loop-note-preserved : goal.loop-note-preserved
loop-note-preserved c =
    let kind = c.args.kind in
    let notes = c.args.notes.now in
    let i = c.loop-note.note-index in
    let note = c.note-item.result in
    elim c.if-has_kind.branch [
      | then-has_kind w ↦ record {
        text = subst (λ (t : Text). Adds c.args.out.now t (flat_map (line_text kind) (take MOST_SHOWN (of_kind kind (take (i + 1) notes))))) (sym w.out-is)
            (reads (then c.loop-note.invariant.text
            (reads w.put_shown.ensures (ap (λ (n : ℕ). cond (nat_lt n MOST_SHOWN) (line_text kind note) []) c.loop-note.invariant.found)))
            (shown_more (line_text kind) (has_kind kind) MOST_SHOWN notes i note c.loop-note-test.true c.note-item.is (sym c.has_kind.ensures ∙ w.if-has_kind.true)));
        found = w.found-is ∙ ap (λ (n : ℕ). n + 1) c.loop-note.invariant.found ∙ counted_more (has_kind kind) notes i note c.loop-note-test.true c.note-item.is (sym c.has_kind.ensures ∙ w.if-has_kind.true);
        few = omega arith;
      }
      | else-has_kind w ↦
          (let same : of_kind kind (take (i + 1) notes) ≡ of_kind kind (take i notes) = filter_less (has_kind kind) notes i note c.loop-note-test.true c.note-item.is (sym c.has_kind.ensures ∙ w.if-has_kind.false) in
          record {
            text = subst (λ (t : Text). Adds c.args.out.now t (flat_map (line_text kind) (take MOST_SHOWN (of_kind kind (take (i + 1) notes))))) (sym w.out-is)
                (reads c.loop-note.invariant.text (ap (λ (l : List NoteParts). flat_map (line_text kind) (take MOST_SHOWN l)) (sym same)));
            found = w.found-is ∙ c.loop-note.invariant.found ∙ ap (λ (l : List NoteParts). length l) (sym same);
            few = omega arith;
          })
    ]
