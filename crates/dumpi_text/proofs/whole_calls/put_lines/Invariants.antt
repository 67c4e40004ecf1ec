use Rattle.dumpi_text.specs.WholeKept.{PutsAll}
use Rattle.dumpi_text.proofs.whole_calls.put_lines.Given as goal

abbrev pub invariant-loop-count : goal.invariant-loop-count
invariant-loop-count g l = PutsAll g.K.Keeping.choice l.fn.call l.call l.count l.text l.left
