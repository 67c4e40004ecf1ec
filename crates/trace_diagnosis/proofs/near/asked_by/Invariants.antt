use Rattle.std.proofs.Common.{◌≡◌, All, take, true}
use Rattle.trace_diagnosis.specs.Shelves.{IsBare}
use Rattle.trace_diagnosis.specs.Ways.{is_asked}
use Rattle.trace_diagnosis.proofs.near.asked_by.Given as goal

abbrev pub invariant-loop-q : goal.invariant-loop-q
invariant-loop-q l = record {
  asked : All (λ q. is_asked l.way l.shelf q ≡ true) (take l.q-index l.receives);
  none : IsBare l.shelf;
}
