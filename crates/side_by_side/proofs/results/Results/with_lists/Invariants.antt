use Rattle.std.proofs.Common.{◌≡◌}
use Rattle.std.specs.List.{All}
use Rattle.std.specs.Vec.Iter.{into_iter_items}
use Rattle.side_by_side.specs.Jobs.{AllDone}
use Rattle.side_by_side.proofs.results.Results.with_lists.Given as goal

abbrev pub invariant-loop-list : goal.invariant-loop-list
invariant-loop-list g l = record {
  same : l.results ≡ l.fn.self;
  rest : All (λ list. AllDone (g.J.Jobs.gives l.fn.self) list.items) (into_iter_items l.list-iterator);
}
