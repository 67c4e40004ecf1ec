use Rattle.std.proofs.Common.{◌≡◌, ℕ, length, arith, subst}
use Rattle.trace_stuck.specs.Graph.{edge, is_up}
use Rattle.trace_stuck.specs.Search.{Begun}
use Rattle.trace_stuck.proofs.Spreading.{firsts_are, up_in}
use Rattle.trace_stuck.proofs.search.firsts.Goals as goal

pub returns-clause-firsts : goal.returns-clause-firsts
returns-clause-firsts c =
    let e : c.loop-first.first ≡ length c.args.edges.now = omega arith in
    firsts_are (edge c.args.edges.now) (is_up c.args.starts.now) (length c.args.edges.now) c.loop-first.labels.items
    (λ m h. omega (arith, up_in c.args.starts.now m h, c.requires.within))
    (subst (λ (n : ℕ). Begun (edge c.args.edges.now) (is_up c.args.starts.now) n c.loop-first.labels.items) e c.loop-first.invariant.begun)
