use Rattle.std.proofs.Common.{◌≡◌, vec_len}
use Rattle.trace_stuck.specs.Named.{IsAskedBy}
use Rattle.trace_stuck.proofs.askers.askers_of.Given as goal

abbrev pub invariant-loop-r : goal.invariant-loop-r
invariant-loop-r l = record {
  len : vec_len l.askers ≡ l.count;
  asked : IsAskedBy l.conditions l.count l.r l.askers.items;
}
