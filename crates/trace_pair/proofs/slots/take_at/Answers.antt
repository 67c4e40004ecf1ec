use Rattle.trace_pair.specs.Slots.{at_eq, at_of, value_in}
use Rattle.std.proofs.Common.{sym, ap, ◌∙◌, arith, cond, None}
use Rattle.trace_pair.proofs.Slotted.{value_out, left_out, row_rises, row_value, new_slots, new_value}
use Rattle.trace_pair.proofs.slots.take_at.Goals as goal

pub returns-then-name-len-clause-taken : goal.returns-then-name-len-clause-taken
returns-then-name-len-clause-taken g c = sym (value_out c.args.rows.now.items c.args.name.now (omega arith))

pub returns-then-name-len-clause-left : goal.returns-then-name-len-clause-left
returns-then-name-len-clause-left g c = left_out c.args.rows.now.items c.args.name.now (omega arith)

pub take_in-requires : goal.take_in-requires
take_in-requires g c = row_rises c.args.rows.now.items c.args.name.now.rank c.index_mut.result.now c.index_mut.result.now (omega arith) c.index_mut.ensures.value c.requires

pub returns-clause-slots : goal.returns-clause-slots
returns-clause-slots g c = new_slots c.args.rows.now.items c.args.name.now.rank c.index_mut.result.now c.take_in.new.row (omega arith) c.index_mut.ensures.value c.requires c.take_in.ensures.rises

pub returns-clause-taken : goal.returns-clause-taken
returns-clause-taken g c = c.take_in.ensures.taken ∙ ap (λ x. value_in c.index_mut.result.now.items x) c.at_of.ensures ∙ row_value c.args.rows.now.items c.args.name.now.rank c.index_mut.result.now c.index_mut.result.now (omega arith) c.index_mut.ensures.value (at_of c.args.name.now)

pub returns-clause-left : goal.returns-clause-left
returns-clause-left g c = new_value c.args.rows.now.items c.args.name.now.rank c.index_mut.result.now c.take_in.new.row (omega arith) c.index_mut.ensures.value (at_of c.args.name.now) None (λ x. c.take_in.ensures.left x ∙ ap (λ a. cond (at_eq a x) None (value_in c.index_mut.result.now.items x)) c.at_of.ensures)
