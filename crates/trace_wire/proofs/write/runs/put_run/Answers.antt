use Rattle.std.proofs.Common.{◌≡◌, ◌+◌, ◌-◌, ◌∷◌, List, ap, arith, sym, ◌∙◌}
use Rattle.std.specs.Int.{w32}
use Rattle.trace_wire.specs.Forms.{number}
use Rattle.trace_wire.specs.Cells.{Entry}
use Rattle.trace_wire.specs.Runs.{runs_of}
use Rattle.trace_wire.proofs.Sending.{reads, then}
use Rattle.trace_wire.proofs.WrittenRuns.{ahead, run_ahead}
use Rattle.trace_wire.proofs.write.runs.put_run.Goals as goal

pub overflow_cast-count : goal.overflow_cast-count
overflow_cast-count g c =
    let e : Entry = ((c.in-Some.rank, c.in-Some.first), c.in-Some.known.now) in
    let a = ahead c.args.cells.now e c.next.new.self c.run_len-count.result (c.run_len-count.result - 1) c.in-Some.ensures.steps c.run_len-count.ensures (omega (arith, c.run_len-count.ensures, c.requires.some)) in
    omega (arith, a.few, c.requires.short, c.run_len-count.ensures, c.requires.some)

pub put_known-requires : goal.put_known-requires
put_known-requires g c =
    let e : Entry = ((c.in-Some.rank, c.in-Some.first), c.in-Some.known.now) in
    let a = ahead c.args.cells.now e c.next.new.self c.run_len-count.result (c.run_len-count.result - 1) c.in-Some.ensures.steps c.run_len-count.ensures (omega (arith, c.run_len-count.ensures, c.requires.some)) in
    omega (arith, a.first, c.requires.short)

pub put_knowns-requires-clause-there : goal.put_knowns-requires-clause-there
put_knowns-requires-clause-there g c =
    let e : Entry = ((c.in-Some.rank, c.in-Some.first), c.in-Some.known.now) in
    let a = ahead c.args.cells.now e c.next.new.self c.run_len-count.result (c.run_len-count.result - 1) c.in-Some.ensures.steps c.run_len-count.ensures (omega (arith, c.run_len-count.ensures, c.requires.some)) in
    a.there

pub put_knowns-requires-clause-short : goal.put_knowns-requires-clause-short
put_knowns-requires-clause-short g c =
    let e : Entry = ((c.in-Some.rank, c.in-Some.first), c.in-Some.known.now) in
    let a = ahead c.args.cells.now e c.next.new.self c.run_len-count.result (c.run_len-count.result - 1) c.in-Some.ensures.steps c.run_len-count.ensures (omega (arith, c.run_len-count.ensures, c.requires.some)) in
    omega (arith, a.others, c.requires.short)

pub returns : goal.returns
returns g c =
    let e : Entry = ((c.in-Some.rank, c.in-Some.first), c.in-Some.known.now) in
    let es : List Entry = c.next.new.self in
    let more = c.run_len-count.result - 1 in
    let next : more + 1 ≡ c.run_len-count.result = omega (arith, c.run_len-count.ensures, c.requires.some) in
    let a = ahead c.args.cells.now e es c.run_len-count.result more c.in-Some.ensures.steps c.run_len-count.ensures next in
    let count = reads c.put_u32.ensures (ap (number w32).spell (sym next ∙ sym a.count)) in
    (run_ahead e es more, a.runs ∙ ap (λ (xs : List Entry). run_ahead e es more ∷ runs_of xs) (sym c.put_knowns.ensures.rest), then c.put_place.ensures (then count (then c.put_known.ensures c.put_knowns.ensures.sends)))
