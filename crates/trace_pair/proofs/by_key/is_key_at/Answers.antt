use Rattle.std.proofs.Common.{sym, ap, ◌∙◌, Some}
use Rattle.std.proofs.lemmas.Option.{slice_get-get_or}
use Rattle.std.specs.Ordering.{is_eq}
use Rattle.trace_pair.specs.declared.by_key.Row.{Row}
use Rattle.trace_pair.proofs.by_key.is_key_at.Goals as goal

pub returns-in-Some : goal.returns-in-Some
returns-in-Some g c = λ h.
    let found = c.in-Some.ensures.lookup in (
      c.in-Some.row.now,
      slice_get-get_or c.args.rows.now c.args.place c.in-Some.row.now found.3.0 ∙ ap (λ (r : Row g.row.K.Denot). Some r) (sym (found.3.1 c.in-Some.row.now)),
      ap is_eq (sym c.cmp.ensures) ∙ sym c.is_eq.ensures ∙ h,
    )
