use Rattle.std.proofs.Common.{◌≡◌, ◌<◌, ◌^◌, true, rules, arith, sym, ap, subst, ◌∙◌}
use Rattle.std.specs.FinMap.{insert}
use Rattle.trace_know.specs.declared.cell.Known.{Known}
use Rattle.trace_know.specs.Placed.{IsPlaced}
use Rattle.trace_wire.specs.Cells.{is_past}
use Rattle.trace_wire.proofs.CellLaws.{cell_made, cell_read}
use Rattle.trace_wire.proofs.read.cells.put_cell.Goals as goal

pub put_last-requires-clause-placed : goal.put_last-requires-clause-placed
put_last-requires-clause-placed c =
    let past : is_past c.args.before c.in-Ok.found.0 ≡ true = search rules in
    let below : c.in-Ok.found.0.1 < 2 ^ 40 = omega arith in
    let is = cell_made c.args.before c.args.bytes.now c.in-Ok.found.0 c.in-Ok.found.1.now c.in-Ok-known_of.found.0 c.in-Ok-known_of.found.1.now c.in-Ok.ensures past below c.in-Ok-known_of.ensures in
    subst (λ (k : Known). IsPlaced c.in-Ok.found.0.0 c.in-Ok.found.0.1 k) (sym c.event_in.ensures) (cell_read c.args.before c.args.bytes.now _ c.are_bytes.ensures is).1

pub put_last-requires-clause-last : goal.put_last-requires-clause-last
put_last-requires-clause-last c =
    let past : is_past c.args.before c.in-Ok.found.0 ≡ true = search rules in
    c.requires c.in-Ok.found.0.0 c.in-Ok.found.0.1 past

pub returns-in-Ok-put_last-clause-ok : goal.returns-in-Ok-put_last-clause-ok
returns-in-Ok-put_last-clause-ok c =
    let past : is_past c.args.before c.in-Ok.found.0 ≡ true = search rules in
    let below : c.in-Ok.found.0.1 < 2 ^ 40 = omega arith in
    let is = cell_made c.args.before c.args.bytes.now c.in-Ok.found.0 c.in-Ok.found.1.now c.in-Ok-known_of.found.0 c.in-Ok-known_of.found.1.now c.in-Ok.ensures past below c.in-Ok-known_of.ensures in
    (c.in-Ok-known_of.found.0, is, c.in-Ok-put_last.ensures.ok ∙ ap (λ (k : Known). insert c.args.knowledge.now c.in-Ok.found.0 k) c.event_in.ensures)
