use Rattle.std.proofs.Common.{◌≡◌, sym, ap, ◌∙◌, arith}
use Rattle.std.specs.FinMap.{len}
use Rattle.trace_know.specs.View.{View, join}
use Rattle.trace_know.specs.Runs.{of_runs}
use Rattle.trace_know.proofs.Holding.{both-IsHeld}
use Rattle.trace_know.proofs.knowledge.Knowledge.join_patch.Goals as goal

pub invariant_of-self-2 : goal.invariant_of-self-2
invariant_of-self-2 c =
    let a = c.self.inside.runs.items in
    let b = c.other.inside.runs.items in
    let ones : len (of_runs a) ≡ len c.args.self.now = ap len c.self.view_is in
    let others : c.count.result ≡ len (of_runs b) = c.count.ensures ∙ sym (ap len c.other.view_is) in
    let most = c.in_ok-most.ensures in
    both-IsHeld c.self.inside.most c.in_ok-most.most c.other.inside.most a b c.join_runs.new.runs.items c.self.invariant c.other.invariant (omega (arith, most.0)) most.1 c.join_runs.ensures.above
    (c.in_ok-join_runs.ensures.ok)

pub returns-clause-ok : goal.returns-clause-ok
returns-clause-ok c =
    c.in_ok-join_runs.ensures.ok ∙ ap (λ (v : View). join v (of_runs c.other.inside.runs.items)) c.self.view_is ∙ ap (join c.args.self.now) c.other.view_is
