use Rattle.std.proofs.Common.{◌≡◌}
use Rattle.comm_makings.specs.State.{AreDerived}
use Rattle.comm_makings.proofs.run.add_first.Given as goal

abbrev pub invariant-loop-calls : goal.invariant-loop-calls
invariant-loop-calls l = record {
  counted : l.rank ≡ l.calls-index;
  derived : AreDerived l.ranks l.views l.comms.items;
}
