use Rattle.std.proofs.Common.{◌∙◌, Some, ap, sym}
use Rattle.mpi_model.specs.declared.told.Told.{Told}
use Rattle.dumpi_calls.proofs.FieldByField.{usual_fields}
use Rattle.dumpi_calls.proofs.skim.usual_front.Goals as goal

pub returns : goal.returns
returns c =
    let more = c.in_ok-rest-3.rest.now in
    let read = usual_fields c.args.text.now
    c.in_ok-strip.field-0.now c.in_ok-rest.rest.now c.in_ok-strip-2.field-0.now c.in_ok-source.rest.now c.in_ok-strip-3.field-0.now c.in_ok-rest-2.rest.now more
    c.in_ok-rest.field-0-0 c.in_ok-source.source c.in_ok-rest-2.field-0-0
    c.in_ok-strip.ensures.whole c.in_ok-rest.ensures.number c.in_ok-strip-2.ensures.whole c.in_ok-source.ensures.number c.in_ok-strip-3.ensures.whole c.in_ok-rest-2.ensures.number c.in_ok-rest-3.ensures in
    read ∙ ap (λ (told : Told). Some (told, more)) (sym c.told_from.ensures)
