use Rattle.std.proofs.Common.{subst}
use Rattle.trace_know.specs.View.{View}
use Rattle.trace_cluster.specs.Exchange.{FailsToWrite, Wrote}
use Rattle.trace_cluster.specs.Stream.{side}
use Rattle.trace_cluster.proofs.Leaving.{followed, follower_grows, heard_all, refused, unheard, unheard_leaves, untold}
use Rattle.trace_cluster.proofs.Passing.{leaves_half}
use Rattle.trace_cluster.proofs.exchange.follower.follow.Goals as goal

pub returns-in-Err-clause-told : goal.returns-in-Err-clause-told
returns-in-Err-clause-told g c = λ tells.
    let old = c.args.stream.now in
    let new = c.hear.new.reader in
    let w0 = side (g.S.Write.written old) (g.S.Write.failures old) in
    let w1 = side (g.S.Write.written new) (g.S.Write.failures new) in
    unheard (side (g.S.Read.left old) (g.S.Read.failures old)) (side (g.S.Read.left new) (g.S.Read.failures new)) w0 w1 c.args.node.now c.hear.new.node c.in-Err.fault
    c.in-Err.ensures.value (leaves_half _ _ w0 w1 (tells old).1 (tells new).1 c.in-Err.ensures.beside)

pub returns-in-Err-clause-leaves : goal.returns-in-Err-clause-leaves
returns-in-Err-clause-leaves g c = unheard_leaves _ _ c.args.node.now c.hear.new.node c.in-Err.fault c.in-Err.ensures.value

pub returns-in-Err-clause-grows : goal.returns-in-Err-clause-grows
returns-in-Err-clause-grows g c =
    follower_grows c.join_laws.ensures.above_one c.join_laws.ensures.idempotent c.args.node.now c.hear.new.node (refused c.in-Err.fault) (unheard_leaves _ _ c.args.node.now c.hear.new.node c.in-Err.fault c.in-Err.ensures.value)

pub returns-in-Ok-write_frame-clause-told : goal.returns-in-Ok-write_frame-clause-told
returns-in-Ok-write_frame-clause-told g c = λ tells.
    let old = c.args.stream.now in
    let mid = c.hear.new.reader in
    let new = c.write_frame.new.writer in
    let r0 = side (g.S.Read.left old) (g.S.Read.failures old) in
    let r1 = side (g.S.Read.left mid) (g.S.Read.failures mid) in
    let r2 = side (g.S.Read.left new) (g.S.Read.failures new) in
    let w0 = side (g.S.Write.written old) (g.S.Write.failures old) in
    let w1 = side (g.S.Write.written mid) (g.S.Write.failures mid) in
    let w2 = side (g.S.Write.written new) (g.S.Write.failures new) in
    let write = c.in-Ok-write_frame.ensures in
    let wrote = subst (λ (v : View). Wrote w1 w2 v) c.know.ensures (write.fits, write.ok, write.no_failure) in
    followed r0 r1 r2 w0 w1 w2 c.args.node.now c.hear.new.node tt c.in-Ok.ensures.value (leaves_half _ _ w0 w1 (tells old).1 (tells mid).1 c.in-Ok.ensures.beside)
    wrote (leaves_half _ _ r1 r2 (tells mid).0 (tells new).0 write.beside)

pub returns-in-Ok-write_frame-clause-leaves : goal.returns-in-Ok-write_frame-clause-leaves
returns-in-Ok-write_frame-clause-leaves g c = let hears = c.in-Ok.ensures.value in (hears.0, hears.2)

pub returns-in-Ok-write_frame-clause-grows : goal.returns-in-Ok-write_frame-clause-grows
returns-in-Ok-write_frame-clause-grows g c =
    let hears = c.in-Ok.ensures.value in
    follower_grows c.join_laws.ensures.above_one c.join_laws.ensures.idempotent c.args.node.now c.hear.new.node (heard_all tt) (hears.0, hears.2)

pub returns-in-Err-write_frame-clause-told : goal.returns-in-Err-write_frame-clause-told
returns-in-Err-write_frame-clause-told g c = λ tells.
    let old = c.args.stream.now in
    let mid = c.hear.new.reader in
    let new = c.write_frame.new.writer in
    let r0 = side (g.S.Read.left old) (g.S.Read.failures old) in
    let r1 = side (g.S.Read.left mid) (g.S.Read.failures mid) in
    let r2 = side (g.S.Read.left new) (g.S.Read.failures new) in
    let w0 = side (g.S.Write.written old) (g.S.Write.failures old) in
    let w1 = side (g.S.Write.written mid) (g.S.Write.failures mid) in
    let w2 = side (g.S.Write.written new) (g.S.Write.failures new) in
    let write = c.in-Err-write_frame.ensures in
    let why = subst (λ (v : View). FailsToWrite w1 w2 v c.in-Err-write_frame.fault) c.know.ensures write.err in
    untold r0 r1 r2 w0 w1 w2 c.args.node.now c.hear.new.node tt c.in-Err-write_frame.fault c.in-Ok.ensures.value (leaves_half _ _ w0 w1 (tells old).1 (tells mid).1 c.in-Ok.ensures.beside)
    why (leaves_half _ _ r1 r2 (tells mid).0 (tells new).0 write.beside)

pub returns-in-Err-write_frame-clause-leaves : goal.returns-in-Err-write_frame-clause-leaves
returns-in-Err-write_frame-clause-leaves g c = let hears = c.in-Ok.ensures.value in (hears.0, hears.2)

pub returns-in-Err-write_frame-clause-grows : goal.returns-in-Err-write_frame-clause-grows
returns-in-Err-write_frame-clause-grows g c =
    let hears = c.in-Ok.ensures.value in
    follower_grows c.join_laws.ensures.above_one c.join_laws.ensures.idempotent c.args.node.now c.hear.new.node (heard_all tt) (hears.0, hears.2)
