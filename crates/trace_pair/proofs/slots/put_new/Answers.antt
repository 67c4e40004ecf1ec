use Rattle.std.proofs.Common.{sym, ap, ◌∙◌, cond, Some}
use Rattle.std.specs.Prelude.{slice_set}
use Rattle.trace_pair.proofs.Slotted.{are_same, value_reached, row_rises, row_value, new_slots, new_value, new_kept, err_kept}
use Rattle.trace_pair.specs.Slots.{at_eq, at_of, value_in}
use Rattle.trace_pair.specs.Table.{same_name}
use Rattle.trace_pair.proofs.slots.put_new.Goals as goal

pub returns-in_err-reach-clause-slots : goal.returns-in_err-reach-clause-slots
returns-in_err-reach-clause-slots g c = are_same c.args.rows.now.items c.reach.new.rows.items c.requires c.reach.ensures.same

pub returns-in_err-reach-clause-err : goal.returns-in_err-reach-clause-err
returns-in_err-reach-clause-err g c = err_kept c.reach.new.rows.items c.args.rows.now.items _ (value_reached c.args.rows.now.items c.reach.new.rows.items c.reach.ensures.same)

pub put_in-requires : goal.put_in-requires
put_in-requires g c = row_rises c.reach.new.rows.items c.args.name.rank c.index_mut.result.now c.index_mut.result.now c.in_ok-reach.ensures.reached c.index_mut.ensures.value (are_same c.args.rows.now.items c.reach.new.rows.items c.requires c.reach.ensures.same)

pub returns-in_err-put-clause-slots : goal.returns-in_err-put-clause-slots
returns-in_err-put-clause-slots g c = new_slots c.reach.new.rows.items c.args.name.rank c.index_mut.result.now c.put_in.new.row c.in_ok-reach.ensures.reached c.index_mut.ensures.value (are_same c.args.rows.now.items c.reach.new.rows.items c.requires c.reach.ensures.same) c.put_in.ensures.rises

pub returns-in_err-put-clause-err : goal.returns-in_err-put-clause-err
returns-in_err-put-clause-err g c = err_kept (slice_set c.reach.new.rows.items c.args.name.rank c.put_in.new.row) c.args.rows.now.items _ (λ n. new_kept c.reach.new.rows.items c.args.name.rank c.index_mut.result.now c.put_in.new.row c.in_ok-reach.ensures.reached c.index_mut.ensures.value (λ x. ap (λ l. value_in l x) c.in_err-put.ensures.err) n ∙ (value_reached c.args.rows.now.items c.reach.new.rows.items c.reach.ensures.same n))

pub returns-clause-slots : goal.returns-clause-slots
returns-clause-slots g c = new_slots c.reach.new.rows.items c.args.name.rank c.index_mut.result.now c.put_in.new.row c.in_ok-reach.ensures.reached c.index_mut.ensures.value (are_same c.args.rows.now.items c.reach.new.rows.items c.requires c.reach.ensures.same) c.put_in.ensures.rises

pub returns-clause-free : goal.returns-clause-free
returns-clause-free g c = λ t. sym (value_reached c.args.rows.now.items c.reach.new.rows.items c.reach.ensures.same c.args.name) ∙ sym (row_value c.reach.new.rows.items c.args.name.rank c.index_mut.result.now c.index_mut.result.now c.in_ok-reach.ensures.reached c.index_mut.ensures.value (at_of c.args.name)) ∙ sym (ap (λ x. value_in c.index_mut.result.now.items x) c.at_of.ensures) ∙ c.in_ok-put.ensures.free t

pub returns-clause-put : goal.returns-clause-put
returns-clause-put g c = λ t n.
    new_value c.reach.new.rows.items c.args.name.rank c.index_mut.result.now c.put_in.new.row c.in_ok-reach.ensures.reached c.index_mut.ensures.value (at_of c.args.name) (Some c.args.value) (λ x. c.in_ok-put.ensures.put t x ∙ ap (λ a. cond (at_eq a x) (Some c.args.value) (value_in c.index_mut.result.now.items x)) c.at_of.ensures) n
    ∙ ap (λ x. cond (same_name c.args.name n) (Some c.args.value) x) (value_reached c.args.rows.now.items c.reach.new.rows.items c.reach.ensures.same n)

pub returns-clause-there : goal.returns-clause-there
returns-clause-there g c = λ f none. c.in_ok-put.ensures.there f (ap (λ x. value_in c.index_mut.result.now.items x) c.at_of.ensures ∙ row_value c.reach.new.rows.items c.args.name.rank c.index_mut.result.now c.index_mut.result.now c.in_ok-reach.ensures.reached c.index_mut.ensures.value (at_of c.args.name) ∙ (value_reached c.args.rows.now.items c.reach.new.rows.items c.reach.ensures.same c.args.name) ∙ none)

pub returns-clause-kept : goal.returns-clause-kept
returns-clause-kept g c = λ f n. new_kept c.reach.new.rows.items c.args.name.rank c.index_mut.result.now c.put_in.new.row c.in_ok-reach.ensures.reached c.index_mut.ensures.value (λ x. ap (λ l. value_in l x) (c.in_ok-put.ensures.kept f)) n ∙ (value_reached c.args.rows.now.items c.reach.new.rows.items c.reach.ensures.same n)
