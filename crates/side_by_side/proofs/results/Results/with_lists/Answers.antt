use Rattle.std.proofs.Common.{subst, ◌∙◌}
use Rattle.std.specs.List.{All}
use Rattle.std.specs.Vec.Iter.{into_iter_items}
use Rattle.std.proofs.lemmas.List.Elements.{All-tail}
use Rattle.side_by_side.proofs.results.Results.with_lists.Goals as goal

pub loop-list-preserved : goal.loop-list-preserved
loop-list-preserved g c =
    let gives = g.J.Jobs.gives c.args.self in
    let both = subst (λ l. All (λ list. All (λ one. gives one.number one.given) list.items) l) c.in-Some.ensures.steps.0 c.loop-list.invariant.rest in
    record {
      same = c.with_list-results.ensures ∙ c.loop-list.invariant.same;
      rest = All-tail (λ list. All (λ one. gives one.number one.given) list.items) c.in-Some.list (into_iter_items c.next.new.self) both;
    }
