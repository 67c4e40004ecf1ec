use Rattle.std.proofs.Common.{◌≡◌, take}
use Rattle.std.specs.List.{flat_map}
use Rattle.trace_diagnosis.specs.LeftOver.{unfinished_of}
use Rattle.trace_diagnosis.proofs.unmatched.unfinished_in.Given as goal

abbrev pub invariant-loop-own : goal.invariant-loop-own
invariant-loop-own l = l.names.items ≡ flat_map unfinished_of (take l.own-index l.ops)
