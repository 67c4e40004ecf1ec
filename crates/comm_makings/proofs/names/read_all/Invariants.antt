use Rattle.std.proofs.Common.{◌≡◌, ◌++◌, drop}
use Rattle.comm_makings.specs.Naming.{meant_from, naming_from, naming_of, taken_by}
use Rattle.comm_makings.proofs.names.read_all.Given as goal

abbrev pub invariant-loop-at : goal.invariant-loop-at
invariant-loop-at l = record {
  meant : l.meant.items ++ meant_from (taken_by l.initial.names) l.at (naming_of l.names) (drop l.at l.calls)
      ≡ meant_from (taken_by l.initial.names) 0 (naming_of l.initial.names) l.calls;
  naming : naming_from (taken_by l.initial.names) l.at (naming_of l.names) (drop l.at l.calls)
      ≡ naming_from (taken_by l.initial.names) 0 (naming_of l.initial.names) l.calls;
  world : l.names.world ≡ l.initial.names.world;
  own : l.names.own ≡ l.initial.names.own;
}
