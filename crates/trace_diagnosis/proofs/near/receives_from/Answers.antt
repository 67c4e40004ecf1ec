use Rattle.std.proofs.Common.{◌∙◌, None, Some}
use Rattle.trace_diagnosis.specs.Ways.{place_for, stands}
use Rattle.trace_diagnosis.proofs.Joining.{first_of_places}
use Rattle.trace_diagnosis.proofs.near.receives_from.Goals as goal

pub returns : goal.returns
returns c = λ xs are.
    first_of_places (stands c.args.way (place_for c.args.way c.args.m.now c.args.source None)) (stands c.args.way (place_for c.args.way c.args.m.now c.args.source (Some c.args.m.now.tag))) xs _ _ _ c.in_ok-found.ensures
    (c.deref.ensures.value ∙ c.in_ok-any.ensures xs are) (c.deref-2.ensures.value ∙ c.in_ok-named.ensures xs are)
