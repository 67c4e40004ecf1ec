use Rattle.std.proofs.Common.{sym, ap, subst, ◌∙◌, arith}
use Rattle.trace_pair.specs.Slots.{Rises, at_of, value_in}
use Rattle.trace_pair.proofs.Slotted.{value_out, row_rises, row_value}
use Rattle.trace_pair.proofs.slots.value_at.Goals as goal

pub returns-then-name-len : goal.returns-then-name-len
returns-then-name-len g c = sym (value_out c.args.rows.now.items c.args.name.now (omega arith))

pub get_in-requires : goal.get_in-requires
get_in-requires g c = subst (λ l. Rises l) (sym c.deref.ensures.value) (row_rises c.args.rows.now.items c.args.name.now.rank c.index.result.now c.index.result.now (omega arith) c.index.ensures c.requires)

pub returns : goal.returns
returns g c =
    c.get_in.ensures ∙ ap (λ x. value_in c.deref.result.now x) c.at_of.ensures ∙ ap (λ l. value_in l (at_of c.args.name.now)) c.deref.ensures.value
    ∙ row_value c.args.rows.now.items c.args.name.now.rank c.index.result.now c.index.result.now (omega arith) c.index.ensures (at_of c.args.name.now)
