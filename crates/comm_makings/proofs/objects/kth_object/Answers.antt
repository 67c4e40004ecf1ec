use Rattle.std.proofs.Common.{◌∙◌, List, Option, None, ap, map, subst}
use Rattle.comm_makings.specs.ObjectMakings.{IsOneMaking, IsOneMakingOf, object_here}
use Rattle.comm_makings.specs.declared.objects.ObjectHere.{ObjectHere}
use Rattle.comm_makings.proofs.objects.kth_object.Goals as goal

pub returns-in-None : goal.returns-in-None
returns-in-None c =
    subst (λ (l : List (Option ObjectHere)). IsOneMakingOf l None)
    (c.deref-2.ensures.value ∙ c.in_ok-all.ensures ∙ ap (map (object_here c.args.ranks.now c.args.views.now c.args.object c.args.k)) c.deref.ensures.value) c.in-None.ensures

pub object_of-requires : goal.object_of-requires
object_of-requires c =
    subst (λ (l : List (Option ObjectHere)). IsOneMaking l c.in-Some.first)
    (c.deref-2.ensures.value ∙ c.in_ok-all.ensures ∙ ap (map (object_here c.args.ranks.now c.args.views.now c.args.object c.args.k)) c.deref.ensures.value) c.in-Some.ensures
