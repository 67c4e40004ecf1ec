-- Lists of runs, and the chunks that they are kept in.
use Rattle.std.proofs.Common.{◌≡◌, ℕ, List, length, sym, ap, ◌∙◌}
use Rattle.trace_know.specs.declared.run.Run.{Run}
use Rattle.trace_know.specs.Chunks.{ChunkValue, RunsInRoom, in_chunks, IsPacked}
use Rattle.trace_know.proofs.Packing.{packed-length}

-- how many runs there are, and for how many there is room
pub record IsSized (count most : ℕ) (runs : RunsInRoom) : Type 0 where
  pub len : count ≡ length runs.items
  pub room : most ≡ runs.room

pub sized : (len room : ℕ) (cs : List ChunkValue) (runs : RunsInRoom) → IsPacked len room cs → in_chunks cs ≡ runs.items → room ≡ runs.room → IsSized len room runs
sized len room cs runs h is same = record { len = sym (packed-length len room cs h) ∙ ap (λ (xs : List Run). length xs) is; room = same }
