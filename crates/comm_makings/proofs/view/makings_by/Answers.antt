use Rattle.std.proofs.Common.{◌∙◌, sym}
use Rattle.comm_makings.proofs.MakingSteps.{all_listed, last_made, none_made, one_made, other_kind}
use Rattle.comm_makings.proofs.view.makings_by.Goals as goal
use Rattle.comm_makings.proofs.view.makings_by.Goals.{in-Some+in-Some-comm_at+then-is_kind+in_ok-add_to-in-Some-comm_at, in-Some+in-Some-comm_at+else-is_kind, in_default}

pub returns-in-None : goal.returns-in-None
returns-in-None c = record {
  each = last_made c.args.by_group c.args.calls.now c.args.meant.now c.loop-at.at c.index-calls-at.result c.loop-at-test.true c.index-calls-at.is
      c.loop-at.lists.items c.in-Some.making.now (sym c.in-Some.ensures) (sym c.in-None.ensures) c.loop-at.invariant.listed;
  all = c.loop-at.invariant.all;
}

pub loop-at-preserved : goal.loop-at-preserved
loop-at-preserved c = elim c.match-making_of.branch [
  | in-Some+in-Some-comm_at+then-is_kind+in_ok-add_to-in-Some-comm_at w ↦
      rw w.lists-is (record {
        listed = one_made c.args.by_group c.args.calls.now c.args.meant.now c.loop-at.at c.index-calls-at.result c.loop-at-test.true c.index-calls-at.is
            c.loop-at.lists.items w.add_to.new.lists.items w.in-Some.making.now w.in-Some-comm_at.parent (sym w.in-Some.ensures) (sym w.in-Some-comm_at.ensures)
            (sym w.is_kind.ensures ∙ w.if-is_kind.true) c.loop-at.invariant.listed w.in_ok-add_to-in-Some-comm_at.ensures.each;
        all = w.in_ok-add_to-in-Some-comm_at.ensures.all ∙ c.loop-at.invariant.all;
      })
  | in-Some+in-Some-comm_at+else-is_kind w ↦
      rw w.lists-is (record {
        listed = other_kind c.args.by_group c.args.calls.now c.args.meant.now c.loop-at.at c.index-calls-at.result c.loop-at-test.true c.index-calls-at.is
            c.loop-at.lists.items w.in-Some.making.now w.in-Some-comm_at.parent (sym w.in-Some.ensures) (sym w.in-Some-comm_at.ensures)
            (sym w.is_kind.ensures ∙ w.if-is_kind.false) c.loop-at.invariant.listed;
        all = c.loop-at.invariant.all;
      })
  | in_default w ↦
      rw w.lists-is (record {
        listed = none_made c.args.by_group c.args.calls.now c.args.meant.now c.loop-at.at c.index-calls-at.result c.loop-at-test.true c.index-calls-at.is
            c.loop-at.lists.items (sym w.in_default.ensures) c.loop-at.invariant.listed;
        all = c.loop-at.invariant.all;
      })
]

pub returns : goal.returns
returns c = record {
  each = all_listed c.args.by_group c.args.calls.now c.args.meant.now c.loop-at.at c.loop-at.lists.items c.loop-at-test.false c.loop-at.invariant.listed;
  all = c.loop-at.invariant.all;
}
