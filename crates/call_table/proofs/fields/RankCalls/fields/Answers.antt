use Rattle.std.proofs.Common.{◌∙◌, ap, subst}
use Rattle.call_table.specs.Completed.{IsCompletion, posts}
use Rattle.call_table.specs.Rows.{name_of, row_of}
use Rattle.call_table.specs.declared.row.Row.{Row}
use Rattle.call_table.specs.declared.slot.Slot.{Slot}
use Rattle.call_table.proofs.fields.RankCalls.fields.Goals as goal

pub returns : goal.returns
returns c =
    let told = c.args.self.now.table.now in
    let row = c.row-row.ensures ∙ ap (λ (s : Slot). row_of told (name_of c.args.self.now.rank c.args.number s) s.side) c.slot_at-slot.ensures in
    record {
      name = ap (λ (r : Row). r.name) row;
      partner = ap (λ (r : Row). r.partner) row;
      round = rw c.round-entered.ensures at c.number_of.ensures;
      completed = subst (λ (r : Row). IsCompletion (posts c.args.called.now.call.now) r.receive c.completed_by-by.result) row c.completed_by-by.ensures;
    }
