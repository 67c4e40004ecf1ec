use Rattle.std.proofs.Common.{◌∙◌, sym}
use Rattle.comm_makings.proofs.MakingSteps.{all_told, told_more, untold_comm, untold_rank}
use Rattle.comm_makings.proofs.view.told_on.Goals as goal
use Rattle.comm_makings.proofs.view.told_on.Goals.{in-Some+in-Some-comm_at, in-Some+in_default-comm_at, in_default}

pub loop-at-preserved : goal.loop-at-preserved
loop-at-preserved c = elim c.match-rank_told.branch [
  | in-Some+in-Some-comm_at w ↦
      rw w.told-is (record {
        told = told_more c.args.calls.now c.args.meant.now c.loop-at.at c.index-calls-at.result c.loop-at-test.true c.index-calls-at.is
            c.loop-at.told.items w.note_told.new.told.items w.in-Some-comm_at.handle w.in-Some.rank (sym w.in-Some-comm_at.ensures) (sym w.in-Some.ensures)
            c.loop-at.invariant.told w.note_told.ensures.each;
        all = w.note_told.ensures.all ∙ c.loop-at.invariant.all;
      })
  | in-Some+in_default-comm_at w ↦
      rw w.told-is (record {
        told = untold_comm c.args.calls.now c.args.meant.now c.loop-at.at c.index-calls-at.result c.loop-at-test.true c.index-calls-at.is
            c.loop-at.told.items (sym w.in_default-comm_at.ensures) c.loop-at.invariant.told;
        all = c.loop-at.invariant.all;
      })
  | in_default w ↦
      rw w.told-is (record {
        told = untold_rank c.args.calls.now c.args.meant.now c.loop-at.at c.index-calls-at.result c.loop-at-test.true c.index-calls-at.is
            c.loop-at.told.items (sym w.in_default.ensures) c.loop-at.invariant.told;
        all = c.loop-at.invariant.all;
      })
]

pub returns : goal.returns
returns c = record {
  each = all_told c.args.calls.now c.args.meant.now c.loop-at.at c.loop-at.told.items c.loop-at-test.false c.loop-at.invariant.told;
  all = c.loop-at.invariant.all;
}
