use Rattle.std.proofs.Common.{sym, ◌∙◌, arith}
use Rattle.trace_know.proofs.Counts.{sound-le, none_sound, sound_left}
use Rattle.trace_know.proofs.run.sound_among.Goals as goal

pub overflow_add-sound : goal.overflow_add-sound
overflow_add-sound c =
    let left = sound_left c.args.cells.now c.loop-known.known-index c.known-item.result c.loop-known-test.true c.known-item.is (sym c.ends_prefix.ensures ∙ c.if-ends_prefix.false) in
    omega (arith, left, c.loop-known.invariant, sound-le c.args.cells.now)

pub returns-then-ends_prefix : goal.returns-then-ends_prefix
returns-then-ends_prefix c =
    let none = none_sound c.args.cells.now c.loop-known.known-index c.known-item.result c.loop-known-test.true c.known-item.is (sym c.ends_prefix.ensures ∙ c.if-ends_prefix.true) in
    omega (arith, none, c.loop-known.invariant)

pub loop-known-preserved : goal.loop-known-preserved
loop-known-preserved c =
    let left = sound_left c.args.cells.now c.loop-known.known-index c.known-item.result c.loop-known-test.true c.known-item.is (sym c.ends_prefix.ensures ∙ c.if-ends_prefix.false) in
    omega (arith, left, c.loop-known.invariant)
