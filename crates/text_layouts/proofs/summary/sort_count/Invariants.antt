use Rattle.std.proofs.Common.{◌≡◌, ◌≤◌, ◌+◌, drop}
use Rattle.text_layouts.specs.Summary.{sort_count}
use Rattle.text_layouts.proofs.summary.sort_count.Given as goal

abbrev pub invariant-loop-comm : goal.invariant-loop-comm
invariant-loop-comm l = record {
  sum : l.count + sort_count l.sort (drop l.comm-index l.comms) ≡ sort_count l.sort l.comms;
  few : l.count ≤ l.comm-index;
}
