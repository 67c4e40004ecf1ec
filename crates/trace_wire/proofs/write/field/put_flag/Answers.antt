use Rattle.std.proofs.Common.{rules}
use Rattle.trace_wire.specs.Fields.{flag}
use Rattle.trace_wire.specs.Sending.{Sends}
use Rattle.trace_wire.proofs.Sending.{then}
use Rattle.trace_wire.proofs.write.field.put_flag.Goals as goal

pub returns : goal.returns
returns g c =
    let first : Sends (g.S.Sink.page c.args.out.now) (g.S.Sink.page c.put_byte.new.out) (flag.spell c.args.done) = search rules in
    then first c.put_told.ensures
