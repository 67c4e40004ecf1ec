use Rattle.std.proofs.Common.{◌≡◌, ◌∙◌, ◌+◌, ℕ, None, suc, sym, subst, take, arith}
use Rattle.text_notes.specs.Words.{has_call, note_of}
use Rattle.text_notes.proofs.Found.{found, none_next}
use Rattle.text_notes.proofs.note.note_of.Goals as goal

pub returns-then-has_call-clause-first : goal.returns-then-has_call-clause-first
returns-then-has_call-clause-first c =
    sym (found (has_call c.args.rank c.args.call) c.args.notes.now c.loop-at.at c.index-notes-at.result c.loop-at-test.true c.index-notes-at.is c.loop-at.invariant (sym c.has_call.ensures ∙ c.if-has_call.true))

pub loop-at-preserved : goal.loop-at-preserved
loop-at-preserved c =
    let n : suc c.loop-at.at ≡ c.loop-at.at + 1 = omega arith in
    subst (λ (k : ℕ). note_of c.args.rank c.args.call (take k c.args.notes.now) ≡ None) n
    (none_next (has_call c.args.rank c.args.call) c.args.notes.now c.loop-at.at c.index-notes-at.result c.loop-at-test.true c.index-notes-at.is c.loop-at.invariant (sym c.has_call.ensures ∙ c.if-has_call.false))
