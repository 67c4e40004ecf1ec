use Rattle.std.proofs.Common.{◌∙◌}
use Rattle.trace_pair.proofs.Slotted.{are_same, value_reached, row_rises, new_slots, new_kept}
use Rattle.trace_pair.proofs.slots.expect.Goals as goal

pub returns-in_err-reach-clause-slots : goal.returns-in_err-reach-clause-slots
returns-in_err-reach-clause-slots g c = are_same c.args.rows.now.items c.reach.new.rows.items c.requires c.reach.ensures.same

pub returns-in_err-reach-clause-same : goal.returns-in_err-reach-clause-same
returns-in_err-reach-clause-same g c = value_reached c.args.rows.now.items c.reach.new.rows.items c.reach.ensures.same

pub expect_in-requires : goal.expect_in-requires
expect_in-requires g c = row_rises c.reach.new.rows.items c.args.name.now.rank c.index_mut.result.now c.index_mut.result.now c.in_ok-reach.ensures.reached c.index_mut.ensures.value (are_same c.args.rows.now.items c.reach.new.rows.items c.requires c.reach.ensures.same)

pub returns-in_err-expect_in-clause-slots : goal.returns-in_err-expect_in-clause-slots
returns-in_err-expect_in-clause-slots g c = new_slots c.reach.new.rows.items c.args.name.now.rank c.index_mut.result.now c.expect_in.new.row c.in_ok-reach.ensures.reached c.index_mut.ensures.value (are_same c.args.rows.now.items c.reach.new.rows.items c.requires c.reach.ensures.same) c.expect_in.ensures.rises

pub returns-in_err-expect_in-clause-same : goal.returns-in_err-expect_in-clause-same
returns-in_err-expect_in-clause-same g c = λ n. new_kept c.reach.new.rows.items c.args.name.now.rank c.index_mut.result.now c.expect_in.new.row c.in_ok-reach.ensures.reached c.index_mut.ensures.value c.expect_in.ensures.same n ∙ value_reached c.args.rows.now.items c.reach.new.rows.items c.reach.ensures.same n

pub returns-clause-slots : goal.returns-clause-slots
returns-clause-slots g c = new_slots c.reach.new.rows.items c.args.name.now.rank c.index_mut.result.now c.expect_in.new.row c.in_ok-reach.ensures.reached c.index_mut.ensures.value (are_same c.args.rows.now.items c.reach.new.rows.items c.requires c.reach.ensures.same) c.expect_in.ensures.rises

pub returns-clause-same : goal.returns-clause-same
returns-clause-same g c = λ n. new_kept c.reach.new.rows.items c.args.name.now.rank c.index_mut.result.now c.expect_in.new.row c.in_ok-reach.ensures.reached c.index_mut.ensures.value c.expect_in.ensures.same n ∙ value_reached c.args.rows.now.items c.reach.new.rows.items c.reach.ensures.same n
