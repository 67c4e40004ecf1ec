use Rattle.std.proofs.Common.{rules, ap, FitsSigned}
use Rattle.std.specs.Int.{w64}
use Rattle.std.proofs.lemmas.Int.{to_z-of_z}
use Rattle.trace_wire.specs.Forms.{signed}
use Rattle.trace_wire.proofs.Sending.{reads, then}
use Rattle.trace_wire.proofs.write.field.put_envelope.Goals as goal

pub returns : goal.returns
returns g c =
    let fits : FitsSigned w64 c.args.e.datatype = search rules in
    let last = reads c.put_i64.ensures (ap signed.spell (to_z-of_z w64 c.args.e.datatype fits)) in
    then c.put_peer.ensures (then c.put_marked.ensures (then c.put_comm.ensures (then c.put_u32.ensures last)))
