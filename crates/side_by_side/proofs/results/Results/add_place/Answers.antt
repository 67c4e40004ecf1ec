use Rattle.std.proofs.Common.{subst, sym}
use Rattle.side_by_side.specs.Jobs.{AreGiven}
use Rattle.side_by_side.proofs.ByNumber.{none_more}
use Rattle.side_by_side.proofs.results.Results.add_place.Goals as goal

pub invariant_of-self-2 : goal.invariant_of-self-2
invariant_of-self-2 g c =
    let gives = g.J.Jobs.gives c.self.inside.jobs.now in
    subst (λ l. AreGiven gives 0 l) (sym c.in_ok-push.ensures.items) (none_more gives 0 c.self.inside.slots.items c.self.invariant)
