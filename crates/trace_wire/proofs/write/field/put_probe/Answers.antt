use Rattle.std.proofs.Common.{ap}
use Rattle.trace_wire.specs.Forms.{marked}
use Rattle.trace_wire.specs.Fields.{comm, peer}
use Rattle.trace_wire.proofs.Sending.{reads, then}
use Rattle.trace_wire.proofs.write.field.put_probe.Goals as goal

pub returns : goal.returns
returns g c =
    then (reads c.put_peer.ensures (ap peer.spell c.source.ensures.value))
    (then (reads c.put_marked.ensures (ap marked.spell c.tag.ensures.value)) (reads c.put_comm.ensures (ap comm.spell c.comm.ensures.value)))
