use Rattle.std.proofs.Common.{◌≡◌, ◌-◌, ◌∷◌, ℕ, List, take, ap, sym, arith, ◌∙◌}
use Rattle.std.specs.Prelude.{min}
use Rattle.std.specs.Int.{w32}
use Rattle.trace_know.specs.Listing.{run_len}
use Rattle.trace_wire.specs.Forms.{number}
use Rattle.trace_wire.specs.Cells.{Entry}
use Rattle.trace_wire.specs.Runs.{runs_of}
use Rattle.trace_wire.proofs.Sending.{reads, then}
use Rattle.trace_wire.proofs.SomeRuns.{Front, front_of}
use Rattle.trace_wire.proofs.WrittenRuns.{run_ahead}
use Rattle.trace_wire.proofs.packed.part.put_front.Goals as goal

pub overflow_cast-count : goal.overflow_cast-count
overflow_cast-count g c =
    let e : Entry = ((c.in-Some.rank, c.in-Some.first), c.in-Some.known.now) in
    let len : c.min-count.result ≡ min (run_len c.args.cells.now) c.args.most = omega (arith, c.min-count.ensures, c.run_len.ensures) in
    let f = front_of c.args.cells.now e c.next.new.self c.args.most c.min-count.result c.in-Some.ensures.steps c.requires.some c.requires.there len in
    omega (arith, f.few, c.requires.short)

pub put_known-requires : goal.put_known-requires
put_known-requires g c =
    let e : Entry = ((c.in-Some.rank, c.in-Some.first), c.in-Some.known.now) in
    let len : c.min-count.result ≡ min (run_len c.args.cells.now) c.args.most = omega (arith, c.min-count.ensures, c.run_len.ensures) in
    let f = front_of c.args.cells.now e c.next.new.self c.args.most c.min-count.result c.in-Some.ensures.steps c.requires.some c.requires.there len in
    omega (arith, f.first, c.requires.short)

pub put_knowns-requires-clause-short : goal.put_knowns-requires-clause-short
put_knowns-requires-clause-short g c =
    let e : Entry = ((c.in-Some.rank, c.in-Some.first), c.in-Some.known.now) in
    let len : c.min-count.result ≡ min (run_len c.args.cells.now) c.args.most = omega (arith, c.min-count.ensures, c.run_len.ensures) in
    let f = front_of c.args.cells.now e c.next.new.self c.args.most c.min-count.result c.in-Some.ensures.steps c.requires.some c.requires.there len in
    omega (arith, f.others, c.requires.short)

pub returns-clause-sends : goal.returns-clause-sends
returns-clause-sends g c =
    let e : Entry = ((c.in-Some.rank, c.in-Some.first), c.in-Some.known.now) in
    let es : List Entry = c.next.new.self in
    let count : ℕ = c.min-count.result in
    let len : count ≡ min (run_len c.args.cells.now) c.args.most = omega (arith, c.min-count.ensures, c.run_len.ensures) in
    let f : Front c.args.cells.now e es c.args.most count = front_of c.args.cells.now e es c.args.most count c.in-Some.ensures.steps c.requires.some c.requires.there len in
    let sized = reads c.put_u32.ensures (ap (number w32).spell (sym f.size)) in
    (run_ahead e es (count - 1), f.runs ∙ ap (λ (xs : List Entry). run_ahead e es (count - 1) ∷ runs_of (take (c.args.most - count) xs)) (sym c.put_knowns.ensures.rest), then c.put_place.ensures (then sized (then c.put_known.ensures c.put_knowns.ensures.sends)))
