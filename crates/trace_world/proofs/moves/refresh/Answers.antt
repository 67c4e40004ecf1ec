use Rattle.std.proofs.Common.{ap, refl, true, false}
use Rattle.trace_node.specs.Node.{Held}
use Rattle.trace_world.proofs.Moving.{answers_now, known_still, laid_still}
use Rattle.trace_world.proofs.moves.refresh.Goals as goal

pub returns-in-Ok-clause-knows : goal.returns-in-Ok-clause-knows
returns-in-Ok-clause-knows c = known_still _ _ _ _ c.index_mut-place.ensures.value (ap (λ (n : Held). n.know) c.in-Ok.ensures.ok)

pub returns-in-Ok-clause-layouts : goal.returns-in-Ok-clause-layouts
returns-in-Ok-clause-layouts c = laid_still _ _ _ _ c.index_mut-place.ensures.value (ap (λ (n : Held). n.layout) c.in-Ok.ensures.ok)

pub returns-in-Ok-clause-ok : goal.returns-in-Ok-clause-ok
returns-in-Ok-clause-ok c = answers_now _ _ _ false (ap (λ (n : Held). n.is_stale) c.in-Ok.ensures.ok)

pub returns-in-Err-clause-knows : goal.returns-in-Err-clause-knows
returns-in-Err-clause-knows c = known_still _ _ _ _ c.index_mut-place.ensures.value (ap (λ (n : Held). n.know) c.in-Err.ensures.err)

pub returns-in-Err-clause-layouts : goal.returns-in-Err-clause-layouts
returns-in-Err-clause-layouts c = laid_still _ _ _ _ c.index_mut-place.ensures.value (ap (λ (n : Held). n.layout) c.in-Err.ensures.err)

pub returns-in-Err-clause-err : goal.returns-in-Err-clause-err
returns-in-Err-clause-err c = (refl, answers_now _ _ _ true (ap (λ (n : Held). n.is_stale) c.in-Err.ensures.err))
