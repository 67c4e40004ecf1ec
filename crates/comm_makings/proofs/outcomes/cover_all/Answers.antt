use Rattle.std.proofs.Common.{ℕ, List, ap, subst}
use Rattle.comm_makings.specs.Selection.{Selection}
use Rattle.comm_makings.proofs.Marks.{Covers, covered_all, covered_more}
use Rattle.comm_makings.proofs.outcomes.cover_all.Goals as goal

pub loop-part-preserved : goal.loop-part-preserved
loop-part-preserved c =
    covered_more c.loop-part.covered.items c.cover.new.covered.items c.args.covered.now.items c.args.parts.now c.loop-part.part-index c.part-item.result
    c.loop-part-test.true c.part-item.is c.loop-part.invariant
    (subst (λ (l : List ℕ). Covers c.loop-part.covered.items c.cover.new.covered.items l) (ap (λ (p : Selection). p.places) c.part.view_is)
    (rw c.deref.ensures.value at c.cover.ensures))

pub returns : goal.returns
returns c = covered_all c.loop-part.covered.items c.args.covered.now.items c.args.parts.now c.loop-part.part-index c.loop-part-test.false c.requires c.loop-part.invariant
