use Rattle.std.proofs.Common.{◌≡◌, List, length, take, ap, arith, length-append}
use Rattle.std.specs.Int.{w32, to_be_bytes}
use Rattle.trace_wire.specs.declared.packed.plan.PartSize.{PartSize}
use Rattle.trace_wire.specs.declared.version.Version.TheVariants.{Two}
use Rattle.trace_wire.specs.Cells.{Entry}
use Rattle.trace_wire.specs.Forms.{number}
use Rattle.trace_wire.specs.Frames.{head_of, payload}
use Rattle.trace_wire.specs.Runs.{runs_bytes, runs_of}
use Rattle.trace_wire.proofs.Sending.{reads, then}
use Rattle.trace_wire.proofs.packed.part.put_part.Goals as goal

pub put_fronts-requires-clause-short : goal.put_fronts-requires-clause-short
put_fronts-requires-clause-short g c =
    let es : List Entry = take c.args.part.cells c.args.cells.now in
    let len : c.args.part.len ≡ length (payload es) = ap (λ (p : PartSize). p.len) c.requires.size in
    omega (arith, len, length-append (to_be_bytes w32 (length (runs_of es))) (runs_bytes (runs_of es)))

pub returns-clause-sends : goal.returns-clause-sends
returns-clause-sends g c =
    let head = reads c.put_head.ensures (ap (λ (p : PartSize). head_of Two p.len) c.requires.size) in
    let count = reads c.put_u32.ensures (ap (λ (p : PartSize). (number w32).spell p.runs) c.requires.size) in
    then head (then count c.put_fronts.ensures.sends)
