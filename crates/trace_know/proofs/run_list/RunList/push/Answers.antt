use Rattle.std.proofs.Common.{ℕ, ap, ◌∙◌}
use Rattle.std.specs.List.{insert}
use Rattle.std.proofs.lemmas.List.Edits.{insert_end}
use Rattle.trace_know.proofs.run_list.RunList.push.Goals as goal

pub returns-clause-items : goal.returns-clause-items
returns-clause-items c = c.insert.ensures.items ∙ ap (λ (n : ℕ). insert c.args.self.now.items n c.args.run) c.len-at.ensures ∙ insert_end c.args.self.now.items c.args.run
