use Rattle.std.proofs.Common.{◌≡◌, ◌-◌, ◌^◌, Some, List, length, subst, ap, arith, ◌∙◌}
use Rattle.std.specs.Prelude.{min}
use Rattle.std.specs.FinMap.{entries}
use Rattle.trace_wire.specs.Cells.{AreInRange, Entry, knowns_bytes, knowns_of}
use Rattle.trace_wire.specs.Frames.{parts_in}
use Rattle.trace_wire.proofs.Lengths.{heads_capped, payload_len}
use Rattle.trace_wire.proofs.OwnCells.{own_cells}
use Rattle.trace_wire.proofs.size.payload_size.Goals as goal

pub returns-clause-len : goal.returns-clause-len
returns-clause-len c =
    let version = c.args.version in
    let es = entries c.args.knowledge.now in
    let parts : c.walk_size-size.result.parts ≡ min (parts_in version es) (2 ^ 64 - 1) = c.walk_size-size.ensures.parts ∙ ap (λ (fs : List Entry). min (parts_in version fs) (2 ^ 64 - 1)) c.cells.ensures in
    let known : c.walk_size-size.result.len ≡ min (length (knowns_bytes (knowns_of es))) (2 ^ 64 - 1) = c.walk_size-size.ensures.len ∙ ap (λ (fs : List Entry). min (length (knowns_bytes (knowns_of fs))) (2 ^ 64 - 1)) c.cells.ensures in
    let heads = heads_capped version c.walk_size-size.result.parts (parts_in version es) parts in
    omega (arith, heads, known, payload_len version es)

pub returns-clause-cells : goal.returns-clause-cells
returns-clause-cells c =
    let v = c.args.knowledge.now in
    own_cells (entries v) (c.listing_laws.ensures.cells_rise v)
    (λ rank place known is. c.known.ensures.placed rank place known ((c.listing_laws.ensures.cells v rank place (Some known)).0 is).0)
    (subst (λ (es : List Entry). AreInRange es) c.cells.ensures c.walk_size-size.ensures.range)
