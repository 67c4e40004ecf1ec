use Rattle.std.proofs.Common.{◌∙◌, ◌++◌, ◌∷◌, [], List, ap, sym}
use Rattle.comm_makings.specs.Left.{left_at}
use Rattle.comm_makings.specs.declared.answer.LeftOut.{LeftOut}
use Rattle.comm_makings.proofs.Places.{numbers_none, numbers_some}
use Rattle.comm_makings.proofs.left.add_left.Goals as goal
use Rattle.comm_makings.proofs.left.add_left.Goals.{in-Some+in_ok-push, in_default}

pub loop-at-preserved : goal.loop-at-preserved
loop-at-preserved c =
    let f = left_at c.args.ranks.now c.args.views.now c.args.uses.now c.args.standings.now c.args.rank in
    elim c.match-left_at.branch [
      | in-Some+in_ok-push w ↦
          rw w.all-is (w.in_ok-push.ensures.items ∙ ap (λ (l : List LeftOut). l ++ w.in-Some.left ∷ []) c.loop-at.invariant
          ∙ numbers_some f c.loop-at.at w.in-Some.left c.args.all.now.items (sym w.in-Some.ensures))
      | in_default w ↦
          rw w.all-is (c.loop-at.invariant ∙ numbers_none f c.loop-at.at c.args.all.now.items (sym w.in_default.ensures))
    ]
