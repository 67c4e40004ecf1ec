-- Runs in chunks.
use Rattle.std.specs.Prelude.{◌≡◌, ℕ, ◌-◌, ◌≤◌, min, List, [], ◌∷◌, ◌++◌, length, refl}
use Rattle.std.specs.VecDeque.{deque_capacity}
use Rattle.std.specs.declared.collections.VecDeque.{VecDeque}
use Rattle.std.specs.declared.alloc.Global.{Global}
use Rattle.std.specs.Coded.{Coded, code_by, coded×, coded_list, coded_ℕ}
use Rattle.trace_know.specs.declared.run.Run.{Run}
use Rattle.trace_know.specs.contracts.run.Run as flat
use Rattle.trace_know.specs.declared.chunks.TheConstants.{CHUNK}

module _ {X Z : Type 0} where
  -- what the chunks have, one after another
  abbrev pub in_chunks : List (VecDeque X Z) → List X
  in_chunks [] = []
  in_chunks (chunk ∷ chunks) = chunk.items ++ in_chunks chunks

  -- The chunks have so many items, and room for so many: each chunk is full but for the last that has any, and has
  -- room for as many as come to it.
  abbrev pub IsPacked : ℕ → ℕ → List (VecDeque X Z) → Type 0
  IsPacked len room [] = (len ≡ 0) × (room ≡ 0)
  IsPacked len room (chunk ∷ chunks) = (length chunk.items ≡ min CHUNK len) × (min CHUNK room ≤ deque_capacity chunk) × IsPacked (len - CHUNK) (room - CHUNK) chunks

-- the chunks of a list of runs
abbrev pub ChunkValue : Type 0
ChunkValue = VecDeque Run Global

-- a list of runs, and how many it has room for
pub record RunsInRoom : Type 0 where
  pub items : List Run
  pub room : ℕ

-- it is stored as the pair of its fields
abbrev pub runs_code : Coded RunsInRoom
runs_code = code_by (List Run × ℕ) (coded× (coded_list flat.the_row.coded) coded_ℕ) (λ r. (r.items, r.room)) (λ p. record { items = p.0; room = p.1 }) (λ _. refl)
