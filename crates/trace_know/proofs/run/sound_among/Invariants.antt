use Rattle.std.proofs.Common.{◌≡◌, ◌+◌, drop}
use Rattle.trace_know.specs.Runs.{sound_among}
use Rattle.trace_know.proofs.run.sound_among.Given as goal

abbrev pub invariant-loop-known : goal.invariant-loop-known
invariant-loop-known l = l.sound + sound_among (drop l.known-index l.cells) ≡ sound_among l.cells
