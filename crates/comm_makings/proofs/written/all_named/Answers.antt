use Rattle.std.proofs.Common.{◌∙◌, ◌++◌, ◌∷◌, [], List, ap, sym}
use Rattle.comm_makings.specs.Written.{named_at}
use Rattle.comm_makings.specs.declared.written.Named.{Named}
use Rattle.comm_makings.proofs.Places.{numbers_none, numbers_some}
use Rattle.comm_makings.proofs.written.all_named.Goals as goal
use Rattle.comm_makings.proofs.written.all_named.Goals.{in-Some+in_ok-push, in_default}

pub loop-place-preserved : goal.loop-place-preserved
loop-place-preserved c =
    let f = named_at c.args.choice c.args.uses.now c.args.made.now in
    elim c.match-named_at.branch [
      | in-Some+in_ok-push w ↦
          rw w.named-is (w.in_ok-push.ensures.items ∙ ap (λ (l : List Named). l ++ w.in-Some.one ∷ []) c.loop-place.invariant
          ∙ numbers_some f c.loop-place.place w.in-Some.one [] (sym w.in-Some.ensures))
      | in_default w ↦
          rw w.named-is (c.loop-place.invariant ∙ numbers_none f c.loop-place.place [] (sym w.in_default.ensures))
    ]
