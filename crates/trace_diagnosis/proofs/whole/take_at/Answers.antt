use Rattle.std.proofs.Common.{◌∙◌, None, Option, ap, arith, set, sym}
use Rattle.std.specs.Option.{option_map}
use Rattle.std.specs.Prelude.{unwrap_or}
use Rattle.std.proofs.lemmas.List.{length-map, map-set}
use Rattle.std.proofs.lemmas.Option.{slice_get_past}
use Rattle.trace_stuck.specs.Shape.{Wait, shape}
use Rattle.trace_stuck.specs.declared.condition.Condition.{Condition}
use Rattle.trace_diagnosis.specs.Askers.{shapes}
use Rattle.trace_diagnosis.proofs.whole.take_at.Goals as goal

pub returns-else-place-conditions-clause-taken : goal.returns-else-place-conditions-clause-taken
returns-else-place-conditions-clause-taken c =
    let old = c.args.conditions.now in
    sym (ap (λ (o : Option (Option Wait)). unwrap_or o None) (slice_get_past (shapes old) c.args.rank (omega (arith, length-map old (option_map shape), c.if-place-conditions.false))))

pub returns-then-place-conditions-clause-rest : goal.returns-then-place-conditions-clause-rest
returns-then-place-conditions-clause-rest c =
    ap (λ (o : Option Condition). shapes (set c.args.conditions.now c.args.rank o)) c.take.ensures.after ∙ map-set (option_map shape) c.args.conditions.now c.args.rank None
