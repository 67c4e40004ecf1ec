use Rattle.std.proofs.Common.{ap, ◌∙◌, ◌++◌, ◌∷◌, [], cond, ℕ, Some, List, take}
use Rattle.std.proofs.Math.Seq.{take-append_seam}
use Rattle.std.specs.Ordering.{is_eq}
use Rattle.std.specs.BTreeMap.{get}
use Rattle.trace_pair.specs.declared.by_key.Row.{Row}
use Rattle.trace_pair.proofs.Keyed.{rows_more, rows_same}
use Rattle.trace_pair.proofs.by_key.put_row.Goals as goal

pub returns-in-Ok-clause-rows : goal.returns-in-Ok-clause-rows
returns-in-Ok-clause-rows g c =
    rows_more g.met.K.Ord.total c.args.rows.now.items c.args.index.now c.requires.rows c.args.row c.push.new.self.items c.insert.new.self c.requires.free (record {
      behind = c.in_ok-push.ensures.items;
      told = λ k. c.in-Ok.ensures.updates.0 k ∙ ap (λ (n : ℕ). cond (is_eq (g.K.Ord.cmp c.args.row.key k)) (Some n) (get g.K.Ord.cmp c.args.index.now k)) (c.len-place.ensures ∙ c.args.rows.now.ok.0);
    })

pub returns-in-Ok-clause-put : goal.returns-in-Ok-clause-put
returns-in-Ok-clause-put g c = record {
  behind = c.in_ok-push.ensures.items;
  told = λ k. c.in-Ok.ensures.updates.0 k ∙ ap (λ (n : ℕ). cond (is_eq (g.K.Ord.cmp c.args.row.key k)) (Some n) (get g.K.Ord.cmp c.args.index.now k)) (c.len-place.ensures ∙ c.args.rows.now.ok.0);
}

pub returns-in-Err-clause-rows : goal.returns-in-Err-clause-rows
returns-in-Err-clause-rows g c =
    rows_same g.K.Ord.cmp c.args.rows.now.items c.truncate.new.self.items c.args.index.now c.insert.new.self
    (c.truncate.ensures.items ∙ ap (λ (l : List (Row g.row.K.Denot)). take c.len-place.result l) c.in_ok-push.ensures.items
    ∙ ap (λ (n : ℕ). take n (c.args.rows.now.items ++ c.args.row ∷ [])) (c.len-place.ensures ∙ c.args.rows.now.ok.0) ∙ take-append_seam c.args.rows.now.items (c.args.row ∷ []))
    c.in-Err.ensures.err c.requires.rows
