use Rattle.std.proofs.Common.{rules}
use Rattle.std.specs.Int.{w64}
use Rattle.trace_wire.specs.Forms.{number}
use Rattle.trace_wire.specs.Sending.{Sends}
use Rattle.trace_wire.proofs.Sending.{then}
use Rattle.trace_wire.proofs.write.field.put_stamp.Goals as goal

pub returns : goal.returns
returns g c =
    let first : Sends (g.S.Sink.page c.args.out.now) (g.S.Sink.page c.put_u64.new.out) ((number w64).spell c.args.time.wall) = search rules in
    let second : Sends (g.S.Sink.page c.put_u64.new.out) (g.S.Sink.page c.put_u64-2.new.out) ((number w64).spell c.args.time.cpu) = search rules in
    then first second
