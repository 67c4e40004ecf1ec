use Rattle.std.proofs.Common.{◌<◌, length, arith}
use Rattle.std.proofs.lemmas.List.{length-map}
use Rattle.trace_ops.specs.Request.{element_of}
use Rattle.trace_ops.proofs.Placing.{element_placed}
use Rattle.trace_ops.proofs.completed.indexed_at.Goals as goal

pub returns : goal.returns
returns c =
    let count = length-map c.args.elements.now (element_of c.args.requests.now) in
    let lt : c.args.place < length c.args.elements.now = omega (arith, count) in
    let placed = element_placed c.args.requests.now c.args.elements.now c.args.place c.index-elements-place.result lt c.index-elements-place.is in
    cc (placed, c.indexed.ensures)
