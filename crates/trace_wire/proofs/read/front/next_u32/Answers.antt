use Rattle.std.specs.Int.{w32}
use Rattle.trace_wire.specs.Forms.{number_at}
use Rattle.trace_wire.proofs.Fronts.{gave, number_long, refused_long}
use Rattle.trace_wire.proofs.read.front.next_u32.Goals as goal

pub returns-in-Ok-held_u32-clause-ok : goal.returns-in-Ok-held_u32-clause-ok
returns-in-Ok-held_u32-clause-ok g c = gave _ _ _ _ _ (number_at w32) _ c.in-Ok.ensures.ok c.in-Ok-held_u32.ensures.ok

pub returns-in-Err-held_u32-clause-err : goal.returns-in-Err-held_u32-clause-err
returns-in-Err-held_u32-clause-err g c =
    rw c.fault_of.ensures.value (refused_long _ _ _ _ _ _ _ (number_at w32) c.in-Err-held_u32.fault number_long c.in-Ok.ensures.ok c.in-Ok.ensures.enough c.in-Err-held_u32.ensures.err c.in-Err-held_u32.ensures.kept c.in-Ok.ensures.no_failure)
