use Rattle.std.proofs.Common.{◌∙◌, sym}
use Rattle.trace_world.proofs.Ending.{answered, on_ok}
use Rattle.trace_world.proofs.world.World.run_at_once.Goals as goal

pub returns-clause-some : goal.returns-clause-some
returns-clause-some c = answered _ _ _ _ _ c.hold_steps-ended.ensures c.catch_up.ensures.same (on_ok _ _ (sym c.is_err.ensures.value ∙ c.if-is_err.false) c.catch_up.ensures.ok)
