use Rattle.std.proofs.Common.{ap, sym, ℕ}
use Rattle.trace_wire.specs.Forms.{byte, pair}
use Rattle.trace_wire.specs.Fields.{stamp}
use Rattle.trace_wire.specs.Events.{event_bytes}
use Rattle.trace_wire.proofs.Sending.{reads, then}
use Rattle.trace_wire.proofs.write.event.put_event.Goals as goal

pub returns-in-Enter : goal.returns-in-Enter
returns-in-Enter g c =
    let head = reads c.put_head.ensures (ap (λ (n : ℕ). (pair byte stamp).spell (n, c.in-Enter.time)) c.byte_of_call.ensures) in
    reads (then head c.put_call.ensures) (ap event_bytes (sym c.in-Enter.is))

pub returns-in-Return : goal.returns-in-Return
returns-in-Return g c =
    let head = reads c.put_head-in-Return.ensures (ap (λ (n : ℕ). (pair byte stamp).spell (n, c.in-Return.time)) c.byte_of_outs.ensures) in
    reads (then head c.put_outs.ensures) (ap event_bytes (sym c.in-Return.is))
