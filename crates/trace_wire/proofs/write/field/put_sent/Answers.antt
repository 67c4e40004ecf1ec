use Rattle.std.proofs.Common.{rules, ap}
use Rattle.trace_wire.specs.Fields.{envelope, mode}
use Rattle.trace_wire.specs.Sending.{Sends}
use Rattle.trace_wire.proofs.Sending.{reads, then}
use Rattle.trace_wire.proofs.write.field.put_sent.Goals as goal

pub returns : goal.returns
returns g c =
    let first : Sends (g.S.Sink.page c.args.out.now) (g.S.Sink.page c.put_byte.new.out) (mode.spell c.args.of) = search rules in
    then first (reads c.put_envelope.ensures (ap envelope.spell c.envelope.ensures.value))
