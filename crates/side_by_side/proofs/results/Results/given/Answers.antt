use Rattle.std.proofs.Common.{◌<◌, IfSome, length, subst, sym, ◌∙◌, arith}
use Rattle.side_by_side.proofs.ByNumber.{first_at, set_first}
use Rattle.side_by_side.proofs.results.Results.given.Goals as goal

pub invariant_of-self : goal.invariant_of-self
invariant_of-self g c =
    let gives = g.J.Jobs.gives c.self.inside.jobs.now in
    set_first gives c.args.number c.self.inside.slots.items c.take.new.self c.self.invariant (subst (λ slot. IfSome slot (gives c.args.number)) (sym c.take.ensures.after) tt)

pub returns-clause-given : goal.returns-clause-given
returns-clause-given g c =
    let gives = g.J.Jobs.gives c.self.inside.jobs.now in
    let slots = c.self.inside.slots in
    let len = c.len.ensures in
    let long = slots.ok.0 in
    let lt : c.args.number < length slots.items = omega (arith, c.if-number-len.false, len, long) in
    let at = first_at gives c.args.number slots.items c.index_mut.result.now c.self.invariant lt in
    let slot = subst (λ o. IfSome o (gives c.args.number)) (sym (c.take.ensures.value ∙ c.index_mut.ensures.value)) at in
    subst (λ jobs. IfSome c.take.result (g.J.Jobs.gives jobs c.args.number)) c.self.view_is slot
