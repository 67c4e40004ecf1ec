use Rattle.trace_wire.specs.Cells.{place_form}
use Rattle.trace_wire.proofs.Fronts.{gave, place_long, refused_long}
use Rattle.trace_wire.proofs.read.front.next_place.Goals as goal

pub returns-in-Ok-held_place-clause-ok : goal.returns-in-Ok-held_place-clause-ok
returns-in-Ok-held_place-clause-ok g c = gave _ _ _ _ _ place_form.read _ c.in-Ok.ensures.ok c.in-Ok-held_place.ensures.ok

pub returns-in-Err-held_place-clause-err : goal.returns-in-Err-held_place-clause-err
returns-in-Err-held_place-clause-err g c =
    rw c.fault_of.ensures.value (refused_long _ _ _ _ _ _ _ place_form.read c.in-Err-held_place.fault place_long c.in-Ok.ensures.ok c.in-Ok.ensures.enough c.in-Err-held_place.ensures.err c.in-Err-held_place.ensures.kept c.in-Ok.ensures.no_failure)
