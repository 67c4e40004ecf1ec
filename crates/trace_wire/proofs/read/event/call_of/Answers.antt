use Rattle.std.proofs.Common.{◌<◌, arith, sym, subst}
use Rattle.trace_wire.specs.Outcomes.{Reads}
use Rattle.trace_wire.proofs.EventForms.{middle}
use Rattle.trace_wire.proofs.read.event.call_of.Goals as goal

pub returns-in_default : goal.returns-in_default
returns-in_default c =
    let past : 6 < c.args.code = grind (arith, c.in_default) in
    subst (λ read. Reads (λ x. (x.0, x.1.now)) c.middle_call_of.result read) (sym (middle c.args.code c.args.bytes.now past)) c.middle_call_of.ensures
