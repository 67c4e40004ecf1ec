use Rattle.std.proofs.Common.{◌∙◌, ◌<◌, None, Some, length, ap, sym, arith}
use Rattle.std.proofs.lemmas.Option.{slice_get-get_or}
use Rattle.comm_makings.proofs.OfferLemmas.{wanted_more}
use Rattle.comm_makings.proofs.creates.Offers.add_all.Goals as goal
use Rattle.comm_makings.proofs.creates.Offers.add_all.Goals.{in-Some+in-Some-group_of+in_ok-add+else-not-branch, in-Some+in_default-group_of, in_default}

pub loop-here-preserved : goal.loop-here-preserved
loop-here-preserved c = elim c.match-here.branch [
  | in-Some+in-Some-group_of+in_ok-add+else-not-branch w ↦
      let below : c.loop-here.here-index < length c.args.all.now = omega arith in
      let there = slice_get-get_or c.args.all.now c.loop-here.here-index None below in
      rw w.self-is
      (wanted_more c.args.values.now c.args.comms.now c.args.all.now c.loop-here.self.groups.items w.add.new.self.groups.items c.loop-here.here-index _ _
      c.loop-here.invariant w.in_ok-add.ensures (there ∙ ap Some w.in-Some.is) (sym w.in-Some-group_of.ensures))
  | in-Some+in_default-group_of w ↦ rw w.self-is c.loop-here.invariant
  | in_default w ↦ rw w.self-is c.loop-here.invariant
]
