use Rattle.std.proofs.Common.{sym, ◌∙◌, arith}
use Rattle.trace_know.proofs.Counts.{whole, conflicts-most, conflict_left}
use Rattle.trace_know.proofs.run.conflicts_behind.Goals as goal

pub overflow_add-conflicts : goal.overflow_add-conflicts
overflow_add-conflicts c =
    let left = conflict_left c.args.cells.now c.loop-known.known-index c.known-item.result c.loop-known-test.true c.known-item.is (sym c.is_contradiction.ensures ∙ c.if-is_contradiction.true) in
    omega (arith, left, c.loop-known.invariant, conflicts-most c.args.cells.now)

pub returns-then-sound-cells : goal.returns-then-sound-cells
returns-then-sound-cells c = sym (whole c.args.cells.now (omega (arith, c.requires, c.if-sound-cells.true)))
