use Rattle.std.proofs.Common.{take}
use Rattle.std.specs.List.{All}
use Rattle.trace_pair.specs.Calls.{IsSingle}
use Rattle.trace_pair.proofs.whole.some_has_several.Given as goal

abbrev pub invariant-loop-own : goal.invariant-loop-own
invariant-loop-own l = All IsSingle (take l.own-index l.held)
