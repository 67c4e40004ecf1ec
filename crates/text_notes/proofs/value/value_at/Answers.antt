use Rattle.std.proofs.Common.{◌≡◌, [], ◌∷◌, ◌++◌, ◌∙◌, Some, arith}
use Rattle.dumpi_text.specs.Shown.{put_in}
use Rattle.text_notes.specs.Values.{GoesOn}
use Rattle.text_notes.proofs.Values.{found_there, not_yet}
use Rattle.text_notes.proofs.value.value_at.Goals as goal

pub returns-then-line-clause-ok : goal.returns-then-line-clause-ok
returns-then-line-clause-ok g c =
    let text = g.R.Read.left c.args.reader in
    let inv = c.each.invariant in
    let goes : GoesOn text inv.0 (put_in c.in_ok-next_call.field-0 c.next_call.new.raw) c.next_call.new.texts = c.in_ok-next_call.ensures.goes_on text inv.0 inv.1 in
    let read : GoesOn text inv.0 (Some c.next_call.new.raw) c.next_call.new.texts = rw c.if-not-branch.false at goes in
    let here : c.next_call.new.raw.line ≡ c.args.line = omega arith in
    found_there text c.args.line c.args.name.now inv.0 c.next_call.new.raw c.next_call.new.texts _ inv.2 read here (c.in_ok-value.ensures ∙ c.param.ensures)

pub each-preserved : goal.each-preserved
each-preserved g c =
    let text = g.R.Read.left c.args.reader in
    let inv = c.each.invariant in
    let goes : GoesOn text inv.0 (put_in c.in_ok-next_call.field-0 c.next_call.new.raw) c.next_call.new.texts = c.in_ok-next_call.ensures.goes_on text inv.0 inv.1 in
    let read : GoesOn text inv.0 (Some c.next_call.new.raw) c.next_call.new.texts = rw c.if-not-branch.false at goes in
    (inv.0 ++ c.next_call.new.raw ∷ [], read, not_yet c.args.line inv.0 c.next_call.new.raw inv.2 (λ same. omega arith))
