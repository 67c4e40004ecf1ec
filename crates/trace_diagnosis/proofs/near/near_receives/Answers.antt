use Rattle.std.proofs.Common.{◌∙◌}
use Rattle.trace_diagnosis.proofs.Nearing.{receives_found}
use Rattle.trace_diagnosis.proofs.near.near_receives.Goals as goal

pub returns : goal.returns
returns c = λ xs are.
    receives_found c.args.way c.args.m.now xs _ _ _ c.in_ok-found.ensures (c.deref.ensures.value ∙ c.in_ok-any.ensures xs are) (c.deref-2.ensures.value ∙ c.in_ok-named.ensures xs are)
