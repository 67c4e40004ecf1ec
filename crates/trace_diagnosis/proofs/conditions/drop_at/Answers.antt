use Rattle.std.proofs.Common.{◌∙◌, Bool, None, ap, if◌then◌else◌, set, sym}
use Rattle.std.specs.Option.{option_map}
use Rattle.std.proofs.lemmas.List.{map-set}
use Rattle.trace_stuck.specs.Shape.{shape}
use Rattle.trace_diagnosis.specs.Askers.{shapes}
use Rattle.trace_diagnosis.proofs.conditions.drop_at.Goals as goal

pub returns : goal.returns
returns c =
    let old = c.args.of_ranks.now in
    ap shapes c.put_at.ensures ∙ map-set (option_map shape) old c.args.rank None
    ∙ sym (ap (λ (b : Bool). if b then set (shapes old) c.args.rank None else shapes old) c.if-not-has_gone_on.false)
