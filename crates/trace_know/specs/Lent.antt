-- A run of a list that is lent to be changed.
use Rattle.std.specs.Prelude.{ℕ, slice_set}
use Rattle.std.specs.Borrow.{Lends, MutBor, Fml}
use Rattle.trace_know.specs.declared.run.Run.{Run}
use Rattle.trace_know.specs.Chunks.{RunsInRoom}
use Rattle.trace_know.specs.contracts.run_list.RunList as list
use Rattle.trace_know.specs.contracts.boxed.BoxedRun as boxed

-- the list ends with the run at an index set to the last value behind the reference
abbrev pub LendsRun : MutBor RunsInRoom → ℕ → MutBor Run → Fml
LendsRun s i r = Lends list.the_row boxed.the_row s r (λ w. record { items = slice_set s.now.items i w; room = s.now.room })
