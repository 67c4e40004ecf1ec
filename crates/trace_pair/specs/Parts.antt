-- The calls of ranks cut into parts: an index takes a part of each rank, then the next part of each.
use Rattle.std.specs.Prelude.{ℕ, ◌*◌, ◌/◌, List, map, length, take}
use Rattle.trace_ops.specs.Ops.{Ops}

-- the first `done` of so many parts of a list, all about as long
abbrev pub first_parts : {X : Type 0} → ℕ → ℕ → List X → List X
first_parts parts done xs = take (done * length xs / parts) xs

-- the ops of a rank with the first parts of its messages, and of its receives, and no others
abbrev pub begun : ℕ → ℕ → Ops → Ops
begun parts done ops = record ops { sends = first_parts parts done ops.sends; receives = first_parts parts done ops.receives }

-- the ops of all ranks, each with its first parts
abbrev pub all_begun : ℕ → ℕ → List Ops → List Ops
all_begun parts done held = map (begun parts done) held
