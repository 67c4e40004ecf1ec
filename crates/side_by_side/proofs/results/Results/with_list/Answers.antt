use Rattle.std.proofs.Common.{subst, ◌∙◌}
use Rattle.std.specs.List.{All}
use Rattle.std.specs.Vec.Iter.{into_iter_items}
use Rattle.std.proofs.lemmas.List.Elements.{All-tail}
use Rattle.side_by_side.proofs.results.Results.with_list.Goals as goal

pub loop-done-preserved : goal.loop-done-preserved
loop-done-preserved g c =
    let gives = g.J.Jobs.gives c.args.self in
    let both = subst (λ l. All (λ one. gives one.number one.given) l) c.in-Some.ensures.steps.0 c.loop-done.invariant.rest in
    record {
      same = c.put.ensures ∙ c.loop-done.invariant.same;
      rest = All-tail (λ one. gives one.number one.given) c.in-Some.done (into_iter_items c.next.new.self) both;
    }
