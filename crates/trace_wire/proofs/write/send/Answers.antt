use Rattle.std.proofs.Common.{rules}
use Rattle.std.specs.FinMap.{entries}
use Rattle.trace_wire.specs.Frames.{frame_as}
use Rattle.trace_wire.proofs.Sending.{given_back, then}
use Rattle.trace_wire.proofs.write.send.Goals as goal

pub returns : goal.returns
returns g c =
    let e = given_back _ _ (frame_as c.args.version (entries c.args.knowledge.now)) c.new.ensures c.flush.ensures.empty (then c.put_frame.ensures c.flush.ensures.sends) in
    search (rules, e)
