use Rattle.trace_cluster.specs.Stream.{side}
use Rattle.trace_cluster.proofs.Leaving.{exchanged}
use Rattle.trace_cluster.proofs.Passing.{leaves_half}
use Rattle.trace_cluster.proofs.exchange.frames.exchange_frames.Goals as goal

pub returns-in-Ok-clause-told : goal.returns-in-Ok-clause-told
returns-in-Ok-clause-told g c = λ tells.
    let old = c.args.stream.now in
    let mid = c.write_frame.new.writer in
    let new = c.heard_frame.new.reader in
    let r0 = side (g.S.Read.left old) (g.S.Read.failures old) in
    let r1 = side (g.S.Read.left mid) (g.S.Read.failures mid) in
    let r2 = side (g.S.Read.left new) (g.S.Read.failures new) in
    let w0 = side (g.S.Write.written old) (g.S.Write.failures old) in
    let w1 = side (g.S.Write.written mid) (g.S.Write.failures mid) in
    let w2 = side (g.S.Write.written new) (g.S.Write.failures new) in
    let write = c.in-Ok.ensures in
    exchanged r0 r1 r2 w0 w1 w2 c.args.know.now c.heard_frame.result (write.fits, write.ok, write.no_failure) (leaves_half _ _ r0 r1 (tells old).0 (tells mid).0 write.beside)
    c.heard_frame.ensures.value (leaves_half _ _ w1 w2 (tells mid).1 (tells new).1 c.heard_frame.ensures.beside)
