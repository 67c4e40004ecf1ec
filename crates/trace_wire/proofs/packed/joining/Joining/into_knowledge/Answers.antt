use Rattle.std.proofs.Common.{◌≡◌, ◌∙◌, List, length, rules, ap, sym}
use Rattle.std.proofs.lemmas.List.{nil_from_length}
use Rattle.trace_wire.specs.declared.packed.joining.Level.{Level}
use Rattle.trace_wire.specs.Joining.{joined}
use Rattle.trace_wire.proofs.Levels.{joined_all, joined_down, joined_last}
use Rattle.trace_wire.proofs.packed.joining.Joining.into_knowledge.Goals as goal

pub loop-below-preserved : goal.loop-below-preserved
loop-below-preserved c =
    let laws = c.join_laws.ensures in
    joined_down laws.associative laws.commutative laws.unit c.loop-below.levels.items c.pop-in-loop-below.new.self.items c.in-Some-pop.below c.loop-below.top.know c.in_ok-top.top.know c.in-Some-pop.ensures.items c.in_ok-top.ensures ∙ c.loop-below.invariant

pub returns : goal.returns
returns c =
    let laws = c.join_laws.ensures in
    let levels : List Level = c.loop-below.levels.items in
    let none : length levels ≡ 0 = search rules in
    sym (joined_all laws.associative laws.commutative laws.unit levels c.loop-below.top.know (nil_from_length levels none)) ∙ c.loop-below.invariant
    ∙ sym (ap (λ (ls : List Level). joined ls) c.in-Some.ensures.items ∙ joined_last laws.associative laws.commutative laws.unit c.pop.new.self.items c.in-Some.last) ∙ c.self.view_is
