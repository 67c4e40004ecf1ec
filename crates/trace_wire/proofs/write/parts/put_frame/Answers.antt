use Rattle.std.proofs.Common.{ap, sym, subst, length, List, ◌<◌, ◌^◌, arith, length-append}
use Rattle.std.specs.FinMap.{entries}
use Rattle.std.specs.Int.{w32, to_be_bytes}
use Rattle.trace_wire.specs.Cells.{Entry}
use Rattle.trace_wire.specs.Forms.{number}
use Rattle.trace_wire.specs.Frames.{head_of, parts_bytes, parts_in}
use Rattle.trace_wire.proofs.Sending.{reads, then}
use Rattle.trace_wire.proofs.write.parts.put_frame.Goals as goal

pub put_parts-requires : goal.put_parts-requires
put_parts-requires g c =
    let version = c.args.version in
    let es = entries c.args.knowledge.now in
    let short : length (parts_bytes version es) < 2 ^ 32 = omega (arith, length-append (to_be_bytes w32 (parts_in version es)) (parts_bytes version es), c.requires.len, c.ranges.len.fits) in
    subst (λ (fs : List Entry). length (parts_bytes version fs) < 2 ^ 32) (sym c.cells.ensures) short

pub returns : goal.returns
returns g c =
    let version = c.args.version in
    let head = reads c.put_head.ensures (ap (head_of version) (sym c.requires.len)) in
    let count = reads c.put_u32.ensures (ap (number w32).spell (sym c.requires.parts)) in
    let parts = reads c.put_parts.ensures (ap (parts_bytes version) c.cells.ensures) in
    then head (then count parts)
