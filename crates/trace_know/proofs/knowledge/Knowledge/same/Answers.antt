use Rattle.std.proofs.Common.{sym, ap, ◌∙◌}
use Rattle.std.specs.FinMap.{entries, same_entries_map}
use Rattle.trace_know.proofs.knowledge.Knowledge.same.Goals as goal

pub returns : goal.returns
returns c = (
  λ t. same_entries_map c.args.self.now c.args.other.now (sym c.cells.ensures ∙ c.same_cells.ensures.0 t ∙ c.cells-2.ensures),
  λ e. c.same_cells.ensures.1 (c.cells.ensures ∙ ap entries e ∙ sym c.cells-2.ensures),
)
