use Rattle.std.proofs.Common.{Ok, Err, subst}
use Rattle.trace_know.specs.View.{View}
use Rattle.trace_cluster.specs.Exchange.{ExchangesFrames}
use Rattle.trace_cluster.specs.Stream.{halves, side}
use Rattle.trace_cluster.proofs.Leaving.{lead_leaves, led, unled}
use Rattle.trace_cluster.proofs.exchange.leader.lead.Goals as goal

pub returns-in-Ok-clause-told : goal.returns-in-Ok-clause-told
returns-in-Ok-clause-told g c = λ tells.
    let old = c.args.stream.now in
    let new = c.exchange_frames.new.stream in
    let before = halves (side (g.S.Read.left old) (g.S.Read.failures old)) (side (g.S.Write.written old) (g.S.Write.failures old)) in
    let after = halves (side (g.S.Read.left new) (g.S.Read.failures new)) (side (g.S.Write.written new) (g.S.Write.failures new)) in
    let frames = subst (λ (v : View). ExchangesFrames before after v (Ok c.in-Ok.heard)) c.know.ensures (c.in-Ok.ensures.told tells) in
    led before after c.args.node.now c.merge_heard.new.node c.in-Ok.heard c.merge_heard.result frames c.merge_heard.ensures

pub returns-in-Ok-clause-leaves : goal.returns-in-Ok-clause-leaves
returns-in-Ok-clause-leaves g c = lead_leaves c.args.node.now c.merge_heard.new.node c.in-Ok.heard c.merge_heard.result c.merge_heard.ensures

pub returns-in-Err-clause-told : goal.returns-in-Err-clause-told
returns-in-Err-clause-told g c = λ tells.
    let old = c.args.stream.now in
    let new = c.exchange_frames.new.stream in
    let before = halves (side (g.S.Read.left old) (g.S.Read.failures old)) (side (g.S.Write.written old) (g.S.Write.failures old)) in
    let after = halves (side (g.S.Read.left new) (g.S.Read.failures new)) (side (g.S.Write.written new) (g.S.Write.failures new)) in
    let frames = subst (λ (v : View). ExchangesFrames before after v (Err c.in-Err.fault)) c.know.ensures (c.in-Err.ensures.told tells) in
    unled before after c.args.node.now c.in-Err.fault frames
