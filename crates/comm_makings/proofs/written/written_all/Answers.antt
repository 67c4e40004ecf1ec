use Rattle.std.proofs.Common.{◌∙◌, Some, ap, sym}
use Rattle.std.proofs.lemmas.Option.{slice_get-get_or}
use Rattle.comm_makings.proofs.Choices.{written_more}
use Rattle.comm_makings.proofs.written.written_all.Goals as goal

pub bounds-made-one : goal.bounds-made-one
bounds-made-one c = c.requires.each c.loop-one.one-index _ (slice_get-get_or c.args.named.now c.loop-one.one-index _ c.loop-one-test.true)

pub loop-one-preserved : goal.loop-one-preserved
loop-one-preserved c =
    rw c.in_ok-push.ensures.items
    (written_more c.args.views.now c.args.uses.now c.args.made.now c.args.named.now c.loop-one.comms.items c.loop-one.one-index _ c.index-made-one.result
    c.in_ok-written_comm.field-0 c.loop-one.invariant (slice_get-get_or c.args.named.now c.loop-one.one-index _ c.loop-one-test.true)
    (slice_get-get_or c.args.made.now _ c.index-made-one.result (c.requires.each c.loop-one.one-index _ (slice_get-get_or c.args.named.now c.loop-one.one-index _ c.loop-one-test.true))
    ∙ ap Some (sym c.index-made-one.is)) c.in_ok-written_comm.ensures)
