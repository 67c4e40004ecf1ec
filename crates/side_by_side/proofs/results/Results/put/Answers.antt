use Rattle.std.proofs.Common.{Some, subst, sym}
use Rattle.side_by_side.proofs.ByNumber.{set_first}
use Rattle.side_by_side.proofs.results.Results.put.Goals as goal

pub invariant_of-self : goal.invariant_of-self
invariant_of-self g c =
    let gives = subst (λ jobs. g.J.Jobs.gives jobs c.args.number c.args.given) (sym c.self.view_is) c.requires in
    set_first (g.J.Jobs.gives c.self.inside.jobs.now) c.args.number c.self.inside.slots.items (Some c.args.given) c.self.invariant gives

pub invariant_of-self-then-number-len-2 : goal.invariant_of-self-then-number-len-2
invariant_of-self-then-number-len-2 g c =
    let gives = subst (λ jobs. g.J.Jobs.gives jobs c.args.number c.args.given) (sym c.self.view_is) c.requires in
    set_first (g.J.Jobs.gives c.self.inside.jobs.now) c.args.number c.self.inside.slots.items (Some c.args.given) c.self.invariant gives
