use Rattle.std.specs.FinMap.{entries}
use Rattle.std.proofs.Common.{arith, length}
use Rattle.trace_wire.specs.Frames.{frame_as, payload_as}
use Rattle.trace_wire.proofs.FrameLaws.{parts_sized, within}
use Rattle.trace_wire.proofs.Sending.{broke_off, came_out}
use Rattle.trace_wire.proofs.write.write_frame_as.Goals as goal

pub overflow_cast-parts : goal.overflow_cast-parts
overflow_cast-parts g c =
    let version = c.args.version in
    let es = entries c.args.knowledge.now in
    let size = c.payload_size-parts.ensures in
    let fits = within version c.payload_size-parts.result.len (length (payload_as version es)) c.longest-longest.result c.longest-longest.ensures size.len (omega (arith, c.if-len-longest.false)) in
    omega (arith, (parts_sized version es c.payload_size-parts.result.parts size.parts fits).1)

pub send-requires-clause-parts : goal.send-requires-clause-parts
send-requires-clause-parts g c =
    let version = c.args.version in
    let es = entries c.args.knowledge.now in
    let size = c.payload_size-parts.ensures in
    let fits = within version c.payload_size-parts.result.len (length (payload_as version es)) c.longest-longest.result c.longest-longest.ensures size.len (omega (arith, c.if-len-longest.false)) in
    (parts_sized version es c.payload_size-parts.result.parts size.parts fits).0

pub returns-then-send-clause-err : goal.returns-then-send-clause-err
returns-then-send-clause-err g c =
    let version = c.args.version in
    let es = entries c.args.knowledge.now in
    let fits = within version c.payload_size-parts.result.len (length (payload_as version es)) c.longest-longest.result c.longest-longest.ensures c.payload_size-parts.ensures.len (omega (arith, c.if-len-longest.false)) in
    let broken = broke_off _ _ _ _ _ _ _ (frame_as version es) c.if-send.true c.send.ensures in
    (fits, broken.0, broken.1)

pub returns-clause-ok : goal.returns-clause-ok
returns-clause-ok g c = (came_out _ _ _ _ _ _ _ (frame_as c.args.version (entries c.args.knowledge.now)) c.if-send.false c.send.ensures).0
