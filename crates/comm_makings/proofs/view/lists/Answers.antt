use Rattle.std.proofs.Common.{[], ◌∷◌, arith, length-append}
use Rattle.comm_makings.proofs.Walks.{empty_more}
use Rattle.comm_makings.proofs.view.lists.Goals as goal

pub loop-preserved : goal.loop-preserved
loop-preserved c = rw c.in_ok-push.ensures.items (record {
  empty = empty_more c.loop.lists.items c.new.result c.new.ensures.items c.loop.invariant.empty;
  all = omega (arith, length-append c.loop.lists.items (c.new.result ∷ []), c.loop.invariant.all);
})

pub returns : goal.returns
returns c = record { each = c.loop.invariant.empty; all = omega (arith, c.loop.invariant.all) }
