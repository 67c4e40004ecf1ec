use Rattle.std.proofs.Common.{◌≡◌, refl, ap, arith}
use Rattle.std.specs.FinMap.{len}
use Rattle.trace_know.specs.Runs.{of_run, of_runs}
use Rattle.trace_know.proofs.Holding.{joined-IsHeld}
use Rattle.trace_know.proofs.knowledge.Knowledge.join_piece.Goals as goal

pub invariant_of-self : goal.invariant_of-self
invariant_of-self c =
    let piece = c.args.piece in
    let runs = c.self.inside.runs.items in
    let same : len (of_runs runs) ≡ len c.args.self.now = ap len c.self.view_is in
    let most = c.in-Ok.ensures in
    joined-IsHeld c.self.inside.most c.in-Ok.most runs c.take_or_return.new.runs.items piece.rank piece.first piece.cells.items (of_run piece) refl c.requires.placed (omega (arith, most.0, c.len.ensures)) most.1 c.self.invariant c.take_or_return.ensures.above
    c.in-Ok-take_or_return.ensures.ok
