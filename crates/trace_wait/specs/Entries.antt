-- The collective calls of each rank, by communicator. No public clause speaks of it.
use Rattle.std.specs.Prelude.{◌≡◌, ℕ, Option, Some, None, List, [], ◌∷◌, slice_get, Vec}
use Rattle.std.specs.declared.alloc.Global.{Global}
use Rattle.std.specs.Ordering.{nat_cmp}
use Rattle.std.specs.BTreeMap.{BTreeMap, get}
use Rattle.trace_ops.specs.declared.entered.Entered.{Entered}
use Rattle.trace_ops.specs.Ops.{Ops}
use Rattle.trace_wait.specs.Rounds.{on_comm}

-- the calls of one rank, by communicator
abbrev pub Row : Type 0
Row = BTreeMap ℕ (Vec Entered Global)

-- the entries that are listed, none where there is no list
abbrev pub items_of : Option (Vec Entered Global) → List Entered
items_of None = []
items_of (Some v) = v.items

-- the calls on a communicator
abbrev pub listed : Row → ℕ → List Entered
listed row c = items_of (get nat_cmp row c)

-- the calls of a rank on a communicator
abbrev pub listed_at : List Row → ℕ → ℕ → List Entered
listed_at rows r c = of (slice_get rows r)
  where
    of : Option Row → List Entered
    of None = []
    of (Some row) = listed row c

-- the row has these calls, in their order
abbrev pub IsRowOf : Row → List Entered → Type 0
IsRowOf row entries = (c : ℕ) → listed row c ≡ on_comm c entries

-- a row for each rank
abbrev pub AreRows : List Row → List Ops → Type 0
AreRows [] [] = Unit {0}
AreRows (row ∷ rows) (o ∷ ops) = IsRowOf row o.rounds × AreRows rows ops
AreRows [] (o ∷ ops) = ⊥
AreRows (row ∷ rows) [] = ⊥
