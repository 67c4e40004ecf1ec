use Rattle.std.proofs.Common.{List, subst, sym}
use Rattle.trace_ops.specs.Ops.{AreOwn, Ops}
use Rattle.call_table.proofs.table.CallTable.new.Goals as goal

pub invariant_of-result : goal.invariant_of-result
invariant_of-result c = record {
  own = c.requires;
  entered = subst (λ (l : List Ops). AreOwn 0 l) (sym c.in_ok-entries.ensures) c.requires;
  same = c.in_ok-entries.ensures;
}
