use Rattle.std.proofs.Common.{◌∙◌, ap, arith, set, ◌++◌, ◌∷◌, []}
use Rattle.trace_wait.specs.declared.tally.RoundTally.{RoundTally}
use Rattle.trace_wait.specs.Tallies.{add}
use Rattle.trace_wait.proofs.Columns.{put_set, put_push}
use Rattle.trace_wait.proofs.tally.put.Goals as goal

pub returns-then-k-len : goal.returns-then-k-len
returns-then-k-len c =
    ap (set c.args.tallies.now.items c.args.k) c.add.ensures
    ∙ ap (λ (t : RoundTally). set c.args.tallies.now.items c.args.k (add t c.args.e.now)) c.index.ensures
    ∙ put_set c.args.tallies.now.items c.args.k c.args.e.now c.index.result.now (omega (arith, c.if-k-len.true, c.args.tallies.now.ok.0, c.len.ensures))

pub returns-in_ok-push : goal.returns-in_ok-push
returns-in_ok-push c =
    c.in_ok-push.ensures.items ∙ ap (λ (t : RoundTally). c.args.tallies.now.items ++ t ∷ []) c.start.ensures
    ∙ put_push c.args.tallies.now.items c.args.k c.args.e.now (omega (arith, c.if-k-len.false, c.requires, c.args.tallies.now.ok.0, c.len.ensures))
