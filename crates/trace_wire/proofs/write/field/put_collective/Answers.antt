use Rattle.std.proofs.Common.{rules, ap}
use Rattle.trace_wire.specs.Forms.{marked}
use Rattle.trace_wire.specs.Fields.{comm, kind}
use Rattle.trace_wire.specs.Sending.{Sends}
use Rattle.trace_wire.proofs.Sending.{reads, then}
use Rattle.trace_wire.proofs.write.field.put_collective.Goals as goal

pub returns : goal.returns
returns g c =
    let first : Sends (g.S.Sink.page c.args.out.now) (g.S.Sink.page c.put_byte.new.out) (kind.spell c.args.call.kind) = search rules in
    then first (then (reads c.put_marked.ensures (ap marked.spell c.root.ensures.value)) (reads c.put_comm.ensures (ap comm.spell c.comm.ensures.value)))
