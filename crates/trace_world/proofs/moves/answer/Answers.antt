use Rattle.std.proofs.lemmas.List.{length-set}
use Rattle.trace_world.proofs.Moving.{caught, caught_err, caught_ok, known_still, laid_still}
use Rattle.trace_world.proofs.moves.answer.Goals as goal

pub returns-clause-same : goal.returns-clause-same
returns-clause-same c =
    let same = caught c.catch_up.result c.index_mut-place.result.now c.catch_up.new.self c.catch_up.ensures.ok c.catch_up.ensures.err in
    record { knows = known_still _ _ _ _ c.index_mut-place.ensures.value same.0; layouts = laid_still _ _ _ _ c.index_mut-place.ensures.value same.1; count = length-set _ _ _ }

pub returns-clause-ok : goal.returns-clause-ok
returns-clause-ok c = caught_ok c.catch_up.result _ _ c.index_mut-place.result.now c.catch_up.new.self c.catch_up.ensures.ok

pub returns-clause-err : goal.returns-clause-err
returns-clause-err c = caught_err c.catch_up.result _ _ c.index_mut-place.result.now c.catch_up.new.self c.catch_up.ensures.err
