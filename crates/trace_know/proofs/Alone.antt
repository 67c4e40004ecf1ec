-- Knowledge of one run.
use Rattle.std.proofs.Common.{◌≡◌, ◌∙◌, ℕ, List, [], ◌∷◌, ap, subst, sym}
use Rattle.trace_know.specs.Placed.{IsKnowledge}
use Rattle.trace_know.specs.Runs.{of_run, of_runs, IsHeld}
use Rattle.trace_know.specs.View.{View}
use Rattle.trace_know.specs.declared.run.Run.{Run}
use Rattle.trace_know.proofs.Joins.{join-empty}

-- what is known is what the run has
pub alone_view : (runs : List Run) (run : Run) (view : View) → of_runs runs ≡ view → runs ≡ run ∷ [] → of_run run ≡ view
alone_view runs run view is alone = sym (join-empty (of_run run)) ∙ sym (ap of_runs alone) ∙ is

-- its cells stand where a trace can have them
pub alone_placed : (most : ℕ) (runs : List Run) (run : Run) → IsHeld most runs → runs ≡ run ∷ [] → IsKnowledge (of_run run)
alone_placed most runs run held alone = subst IsKnowledge (ap of_runs alone ∙ join-empty (of_run run)) held.placed
