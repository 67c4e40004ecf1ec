use Rattle.std.proofs.Common.{rules, take}
use Rattle.trace_wire.specs.Frames.{frame}
use Rattle.trace_wire.proofs.Sending.{given_back, then}
use Rattle.trace_wire.proofs.packed.writing.send_part.Goals as goal

pub returns-clause-sends : goal.returns-clause-sends
returns-clause-sends g c =
    let e = given_back _ _ (frame (take c.args.part.cells c.args.cells.now)) c.new.ensures c.flush.ensures.empty (then c.put_part.ensures.sends c.flush.ensures.sends) in
    search (rules, e)
