use Rattle.std.proofs.Common.{◌≡◌, ◌+◌, ◌∷◌, List, length, ap, arith, subst, ◌∙◌}
use Rattle.trace_wire.specs.Cells.{Entry, cell_bytes, cells_bytes, known_bytes}
use Rattle.trace_wire.specs.Sending.{Comes}
use Rattle.trace_wire.proofs.Lengths.{cells_len}
use Rattle.trace_wire.proofs.Sending.{comes, next_item}
use Rattle.trace_wire.proofs.write.cells.put_cells.Goals as goal

pub loop-rank-init : goal.loop-rank-init
loop-rank-init g c = record { short = c.requires; comes = comes _ (cells_bytes c.args.cells) }

pub loop-rank-preserved : goal.loop-rank-preserved
loop-rank-preserved g c =
    let e : Entry = ((c.in-Some.rank, c.in-Some.place), c.in-Some.known.now) in
    let es : List Entry = c.next.new.self in
    let is : c.loop-rank.cells ≡ e ∷ es = c.in-Some.ensures.steps in
    let len : length (cells_bytes c.loop-rank.cells) ≡ (12 + length (known_bytes e.1)) + length (cells_bytes es) = ap (λ (l : List Entry). length (cells_bytes l)) is ∙ cells_len e es in
    record {
      short = omega (arith, len, c.loop-rank.invariant.short);
      comes = next_item cell_bytes _ _ _ (cells_bytes c.args.cells) e es (subst (λ (l : List Entry). Comes (g.S.Sink.page c.args.out.now) (g.S.Sink.page c.loop-rank.out) (cells_bytes c.args.cells) (cells_bytes l)) is c.loop-rank.invariant.comes) c.put_cell.ensures;
    }
