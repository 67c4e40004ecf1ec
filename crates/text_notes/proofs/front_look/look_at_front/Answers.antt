use Rattle.std.proofs.Common.{rules, ◌≡◌, ◌<◌, ◌∙◌, ◌++◌, ◌∷◌, [], None, Some, ap, sym, arith}
use Rattle.dumpi_text.specs.Shown.{put_in}
use Rattle.text_notes.specs.FrontLooks.{FrontLookParts, front_from, no_front, with_front}
use Rattle.text_notes.specs.Values.{GoesOn}
use Rattle.text_notes.proofs.FrontLooks.{all_told, first_told, front_more, none_few, still_few}
use Rattle.text_notes.proofs.front_look.look_at_front.Goals as goal

pub each-init : goal.each-init
each-init g c = ([], search rules, c.new-look.ensures, none_few _ c.args.most c.new-look.ensures)

pub returns-then-not-branch-clause-ok : goal.returns-then-not-branch-clause-ok
returns-then-not-branch-clause-ok g c =
    let text = g.R.Read.left c.args.reader in
    let inv = c.each.invariant in
    let goes : GoesOn text inv.0 (put_in c.in_ok-next_call.field-0 c.next_call.new.raw) c.next_call.new.texts = c.in_ok-next_call.ensures.goes_on text inv.0 inv.1 in
    let over : GoesOn text inv.0 None c.next_call.new.texts = rw c.if-not-branch.true at goes in
    all_told text c.args.wanted.now c.args.most inv.0 c.each.look over inv.2 inv.3

pub returns-clause-ok : goal.returns-clause-ok
returns-clause-ok g c =
    let text = g.R.Read.left c.args.reader in
    let inv = c.each.invariant in
    first_told text c.args.wanted.now c.args.most inv.0 c.each.texts c.each.look inv.1 inv.2 inv.3 (λ less. omega arith)

pub each-preserved : goal.each-preserved
each-preserved g c =
    let text = g.R.Read.left c.args.reader in
    let inv = c.each.invariant in
    let goes : GoesOn text inv.0 (put_in c.in_ok-next_call.field-0 c.next_call.new.raw) c.next_call.new.texts = c.in_ok-next_call.ensures.goes_on text inv.0 inv.1 in
    let read : GoesOn text inv.0 (Some c.next_call.new.raw) c.next_call.new.texts = rw c.if-not-branch.false at goes in
    let more : c.add_call.new.look ≡ with_front c.args.wanted.now c.each.look c.next_call.new.raw = c.in_ok-add_call.ensures in
    let told : c.add_call.new.look ≡ front_from c.args.wanted.now no_front (inv.0 ++ c.next_call.new.raw ∷ []) =
    more ∙ ap (λ (l : FrontLookParts). with_front c.args.wanted.now l c.next_call.new.raw) inv.2 ∙ sym (front_more c.args.wanted.now no_front inv.0 c.next_call.new.raw) in
    let less : c.each.look.calls < c.args.most = omega arith in
    (inv.0 ++ c.next_call.new.raw ∷ [], read, told, still_few c.each.look.calls c.args.most c.add_call.new.look.calls less (ap (λ (l : FrontLookParts). l.calls) more))
