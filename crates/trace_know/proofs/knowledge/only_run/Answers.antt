use Rattle.std.proofs.Common.{◌≡◌, List, [], ◌∷◌, length, slice_index_or, sym, arith}
use Rattle.trace_know.specs.declared.run.Run.{Run}
use Rattle.trace_know.proofs.knowledge.only_run.Goals as goal

-- a list of one run
one_run : (runs : List Run) (run : Run) → length runs ≡ 1 → run ≡ slice_index_or runs 0 run → runs ≡ run ∷ []
one_run [] run len is = absurd (omega arith)
one_run (r ∷ []) run len is = λ i. sym is i ∷ []
one_run (r ∷ s ∷ runs) run len is = absurd (omega arith)

pub returns : goal.returns
returns c = one_run c.args.runs.now.items c.at.result.now (omega arith) c.at.ensures
