use Rattle.std.proofs.Common.{◌∙◌, ◌++◌, ◌∷◌, [], List, ap, sym}
use Rattle.comm_makings.specs.Uses.{call_use_at}
use Rattle.comm_makings.specs.declared.uses.HeldUses.{HeldUses}
use Rattle.comm_makings.proofs.Places.{numbers_none, numbers_some}
use Rattle.comm_makings.proofs.uses.add_calls.Goals as goal
use Rattle.comm_makings.proofs.uses.add_calls.Goals.{in-Some+in_ok-push, in_default}

pub loop-at-preserved : goal.loop-at-preserved
loop-at-preserved c =
    let f = call_use_at c.args.calls.now c.args.meant.now in
    elim c.match-call_use_at.branch [
      | in-Some+in_ok-push w ↦
          rw w.held-is (w.in_ok-push.ensures.items ∙ ap (λ (l : List HeldUses). l ++ w.in-Some.group ∷ []) c.loop-at.invariant
          ∙ numbers_some f c.loop-at.at w.in-Some.group c.args.held.now.items (sym w.in-Some.ensures))
      | in_default w ↦
          rw w.held-is (c.loop-at.invariant ∙ numbers_none f c.loop-at.at c.args.held.now.items (sym w.in_default.ensures))
    ]
