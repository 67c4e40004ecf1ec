use Rattle.std.proofs.Common.{◌∙◌, ◌++◌, List, ap}
use Rattle.comm_makings.specs.declared.state.Made.{Made}
use Rattle.comm_makings.proofs.Accounts.{derives, sounds}
use Rattle.comm_makings.proofs.derivation.answer_of.Goals as goal

pub returns-clause-derived : goal.returns-clause-derived
returns-clause-derived c =
    derives c.args.choice c.args.ranks.now c.args.views.now c.in_ok-uses.uses c.args.run.comms.items c.args.run.inters.items c.in_ok-objects.objects.items c.deref-4.result.now c.args.run.standings.items
    c.args.run.values.items c.args.run.next.items _ c.requires.world (rw c.requires.world at c.requires.views) c.requires.right (rw c.deref-3.ensures.value at c.in_ok-objects.ensures)
    c.in_ok-uses.ensures (c.deref-4.ensures.value ∙ c.in_ok-append-2.ensures.items ∙ ap (λ (l : List Made). l ++ c.in_ok-objects.objects.items) c.in_ok-append.ensures.items) (rw c.requires.world at c.in_ok-comms.ensures)
    (rw c.deref.ensures.value at (rw c.deref-2.ensures.value at c.in_ok-left_out.ensures))

pub returns-clause-sound : goal.returns-clause-sound
returns-clause-sound c =
    sounds c.args.choice c.args.ranks.now c.args.views.now c.in_ok-uses.uses c.args.run.comms.items c.args.run.inters.items c.in_ok-objects.objects.items c.deref-4.result.now c.args.run.standings.items
    c.args.run.values.items c.args.run.next.items _ (rw c.requires.world at c.requires.views) c.requires.right (rw c.deref-3.ensures.value at c.in_ok-objects.ensures)
    c.in_ok-uses.ensures (c.deref-4.ensures.value ∙ c.in_ok-append-2.ensures.items ∙ ap (λ (l : List Made). l ++ c.in_ok-objects.objects.items) c.in_ok-append.ensures.items) (rw c.requires.world at c.in_ok-comms.ensures)
