use Rattle.std.proofs.Common.{◌∙◌, arith, subst, sym}
use Rattle.std.specs.BTreeSet.{BTreeSet}
use Rattle.mpi_model.specs.declared.message.Receive.{Receive}
use Rattle.trace_pair.specs.Groups.{HasMember}
use Rattle.trace_pair.specs.KeyOrders.{receive_cmp}
use Rattle.trace_pair.proofs.LaneSteps.{some_member}
use Rattle.trace_pair.proofs.lanes.Lane.is_empty.Goals as goal

pub returns-clause-some : goal.returns-clause-some
returns-clause-some c = λ h.
    let steps = c.self.inside.steps in
    subst (λ (s : BTreeSet Receive). HasMember receive_cmp s) c.self.view_is (some_member steps.items steps.len (omega (arith, steps.ok.0)) (sym c.is_empty.ensures ∙ h))
