use Rattle.std.proofs.Common.{◌≡◌, false, take}
use Rattle.std.specs.List.{list_any}
use Rattle.trace_diagnosis.specs.LeftOver.{is_sure_loose}
use Rattle.trace_diagnosis.proofs.loose.has_loose.Given as goal

abbrev pub invariant-loop-m : goal.invariant-loop-m
invariant-loop-m l = list_any (is_sure_loose l.pairs) (take l.m-index l.sends) ≡ false
