use Rattle.std.proofs.Common.{◌∙◌, sym}
use Rattle.comm_makings.proofs.ObjectSteps.{all_objects, last_object, no_object, one_object}
use Rattle.comm_makings.proofs.object_view.makings_of.Goals as goal
use Rattle.comm_makings.proofs.object_view.makings_of.Goals.{else-makes_such, then-makes_such+in-Some+in_ok-add_to-in-Some}

pub returns-in-None : goal.returns-in-None
returns-in-None c = record {
  each = last_object c.args.object c.args.calls.now c.args.meant.now c.loop-at.at c.index-calls-at.result c.loop-at-test.true c.index-calls-at.is
      c.loop-at.lists.items (sym c.makes_such.ensures ∙ c.if-makes_such.true) (sym c.in-None.ensures) c.loop-at.invariant.listed;
  all = c.loop-at.invariant.all;
}

pub loop-at-preserved : goal.loop-at-preserved
loop-at-preserved c = elim c.if-makes_such.branch [
  | then-makes_such+in-Some+in_ok-add_to-in-Some w ↦
      rw w.lists-is (record {
        listed = one_object c.args.object c.args.calls.now c.args.meant.now c.loop-at.at c.index-calls-at.result c.loop-at-test.true c.index-calls-at.is
            c.loop-at.lists.items w.add_to.new.lists.items w.in-Some.parent (sym c.makes_such.ensures ∙ w.if-makes_such.true) (sym w.in-Some.ensures)
            c.loop-at.invariant.listed w.in_ok-add_to-in-Some.ensures.each;
        all = w.in_ok-add_to-in-Some.ensures.all ∙ c.loop-at.invariant.all;
      })
  | else-makes_such w ↦
      rw w.lists-is (record {
        listed = no_object c.args.object c.args.calls.now c.args.meant.now c.loop-at.at c.index-calls-at.result c.loop-at-test.true c.index-calls-at.is
            c.loop-at.lists.items (sym c.makes_such.ensures ∙ w.if-makes_such.false) c.loop-at.invariant.listed;
        all = c.loop-at.invariant.all;
      })
]

pub returns : goal.returns
returns c = record {
  each = all_objects c.args.object c.args.calls.now c.args.meant.now c.loop-at.at c.loop-at.lists.items c.loop-at-test.false c.loop-at.invariant.listed;
  all = c.loop-at.invariant.all;
}
