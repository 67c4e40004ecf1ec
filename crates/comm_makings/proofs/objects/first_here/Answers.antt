use Rattle.std.proofs.Common.{List, None, Option, get_or, subst, take}
use Rattle.std.proofs.lemmas.List.{take_all, take_more}
use Rattle.comm_makings.specs.ObjectMakings.{IsFirstHere}
use Rattle.comm_makings.specs.declared.objects.ObjectHere.{ObjectHere}
use Rattle.comm_makings.proofs.ObjectFirsts.{here_more}
use Rattle.comm_makings.proofs.objects.first_here.Goals as goal

pub loop-here-preserved : goal.loop-here-preserved
loop-here-preserved c =
    rw (take_more c.args.all.now c.loop-here.here-index None c.loop-here-test.true)
    (rw c.smaller-first.ensures
    (rw c.returned_here.ensures (here_more (take c.loop-here.here-index c.args.all.now) (get_or c.args.all.now c.loop-here.here-index None) c.loop-here.first c.loop-here.invariant)))

pub returns : goal.returns
returns c =
    subst (λ (l : List (Option ObjectHere)). IsFirstHere l c.loop-here.first) (take_all c.loop-here.here-index c.args.all.now c.loop-here-test.false) c.loop-here.invariant
