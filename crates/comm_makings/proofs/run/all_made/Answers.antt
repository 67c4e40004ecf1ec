use Rattle.std.proofs.Common.{◌∙◌, Some, ap, sym}
use Rattle.std.proofs.lemmas.Option.{slice_get-get_or}
use Rattle.comm_makings.proofs.Derivations.{made_more}
use Rattle.comm_makings.proofs.run.all_made.Goals as goal

pub loop-part-preserved : goal.loop-part-preserved
loop-part-preserved c =
    rw c.in_ok-push.ensures.items
    (made_more c.args.members.now c.args.all.now c.args.parts.now c.loop-part.made.items c.loop-part.part-index c.part-item.result c.in_ok-made_of.field-0
    (slice_get-get_or c.args.parts.now c.loop-part.part-index c.part-item.result c.loop-part-test.true ∙ ap Some (sym c.part-item.is))
    c.in_ok-made_of.ensures.members c.in_ok-made_of.ensures.ranks c.in_ok-made_of.ensures.dims c.in_ok-made_of.ensures.order c.in_ok-made_of.ensures.one_group c.loop-part.invariant)
