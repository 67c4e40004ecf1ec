use Rattle.std.proofs.Common.{◌≡◌}
use Rattle.std.specs.Vec.Iter.{into_iter_items}
use Rattle.side_by_side.specs.Jobs.{AllDone}
use Rattle.side_by_side.proofs.results.Results.with_list.Given as goal

abbrev pub invariant-loop-done : goal.invariant-loop-done
invariant-loop-done g l = record {
  same : l.results ≡ l.fn.self;
  rest : AllDone (g.J.Jobs.gives l.fn.self) (into_iter_items l.done-iterator);
}
