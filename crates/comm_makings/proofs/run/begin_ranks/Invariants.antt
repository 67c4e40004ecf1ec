use Rattle.std.proofs.Common.{◌≡◌}
use Rattle.comm_makings.specs.State.{NoneListedAt, NoneStandsAt}
use Rattle.comm_makings.proofs.run.begin_ranks.Given as goal

abbrev pub invariant-loop-at : goal.invariant-loop-at
invariant-loop-at l = record {
  standings : NoneStandsAt l.run.standings.items;
  values : NoneListedAt l.run.values.items;
  comms : l.run.comms ≡ l.initial.run.comms;
  next : l.run.next ≡ l.initial.run.next;
  inters : l.run.inters ≡ l.initial.run.inters;
}
