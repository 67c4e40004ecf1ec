use Rattle.std.proofs.Common.{◌∙◌, List, ap}
use Rattle.trace_know.specs.View.{View, join}
use Rattle.trace_wire.specs.declared.packed.joining.Level.{Level}
use Rattle.trace_wire.specs.Joining.{joined}
use Rattle.trace_wire.proofs.Levels.{joined_down, joined_last}
use Rattle.trace_wire.proofs.packed.joining.Joining.taking.Goals as goal

pub loop-below-preserved : goal.loop-below-preserved
loop-below-preserved c =
    let laws = c.join_laws.ensures in
    joined_down laws.associative laws.commutative laws.unit c.loop-below.levels.items c.pop_small.new.levels.items c.in-Some.below c.loop-below.top.know c.in_ok-top.top.know c.in-Some.ensures.some c.in_ok-top.ensures ∙ c.loop-below.invariant

pub returns : goal.returns
returns c =
    let laws = c.join_laws.ensures in
    let all = c.in_ok-push.ensures.items in
    let same = c.pop_small.ensures.none c.in_default.is in
    ap (λ (ls : List Level). joined ls) all ∙ joined_last laws.associative laws.commutative laws.unit c.pop_small.new.levels.items c.loop-below.top ∙ ap (λ (ls : List Level). join (joined ls) c.loop-below.top.know) same ∙ c.loop-below.invariant ∙ ap (λ (v : View). join v c.args.know) c.self.view_is
