-- Values by names, in a list of slots for each rank.
use Rattle.std.specs.Prelude.{◌≡◌, ◌<◌, ◌≤◌, ◌==◌, ◌&&◌, ◌||◌, ◌++◌, nat_lt, if◌then◌else◌, Bool, true, ℕ, zero, suc, cond, Option, None, List, [], ◌∷◌, length, slice_index_or, Vec}
use Rattle.std.specs.declared.cmp.Ordering.{Ordering}
use Rattle.std.specs.List.{filter_map}
use Rattle.std.specs.Ordering.{nat_cmp, ordering_then}
use Rattle.std.specs.Option.{option_map}
use Rattle.std.specs.declared.alloc.Global.{Global}
use Rattle.mpi_model.specs.declared.event.OpName.{OpName}
use Rattle.trace_ops.specs.Order.{Has}
use Rattle.trace_pair.specs.Table.{same_name}
use Rattle.trace_pair.specs.declared.slots.At.{At}
use Rattle.trace_pair.specs.declared.slots.Slot.{Slot}

-- where a name stands in its rank
abbrev pub at_of : OpName → At
at_of name = record { call = name.call; part = name.part }

-- by call, and then by part
abbrev pub at_lt : At → At → Bool
at_lt a b = nat_lt a.call b.call || ((a.call == b.call) && nat_lt a.part b.part)

-- the same as an order
abbrev pub at_cmp : At → At → Ordering
at_cmp a b = ordering_then (nat_cmp a.call b.call) (nat_cmp a.part b.part)

-- one call and one part
abbrev pub at_eq : At → At → Bool
at_eq a b = (a.call == b.call) && (a.part == b.part)

-- each stands before those that follow
abbrev pub Rises : {V : Type 0} → List (Slot V) → Type 0
Rises [] = Unit {0}
Rises {V} (s ∷ row) = ((t : Slot V) → Has row t → at_lt s.at t.at ≡ true) × Rises row

-- the value of a part of a call
abbrev pub value_in : {V : Type 0} → List (Slot V) → At → Option V
value_in [] at = None
value_in (s ∷ row) at = cond (at_eq s.at at) s.value (value_in row at)

-- the part has the value, and any other the one that it had
abbrev pub SetsIn : {V : Type 0} → At → Option V → List (Slot V) → List (Slot V) → Type 0
SetsIn {V} at value old new = (c : At) → value_in new c ≡ (if at_eq at c then value else value_in old c)

-- its slot stands at the place
abbrev pub IsSlotAt : {V : Type 0} → List (Slot V) → ℕ → At → Type 0
IsSlotAt {V} row i at = (i < length row) × ((d : Slot V) → (slice_index_or row i d).at ≡ at)

-- what stands before the place is before this one, and what stands from there on behind it
pub record IsGapAt {V : Type 0} (row : List (Slot V)) (i : ℕ) (at : At) : Type 0 where
  pub bound : i ≤ length row
  pub below : (k : ℕ) (d : Slot V) → k < i → at_lt (slice_index_or row k d).at at ≡ true
  pub above : (k : ℕ) (d : Slot V) → i ≤ k → k < length row → at_lt at (slice_index_or row k d).at ≡ true

-- for each rank its slots
abbrev pub Slots : Type 0 → Type 0
Slots V = List (Vec (Slot V) Global)

-- the slots of a rank
abbrev pub slots_at : {V : Type 0} → Slots V → ℕ → List (Slot V)
slots_at [] rank = []
slots_at (row ∷ rows) zero = row.items
slots_at (row ∷ rows) (suc rank) = slots_at rows rank

-- in each rank the slots stand in their order
pub record AreSlots {V : Type 0} (rows : Slots V) : Type 0 where
  pub rise : (rank : ℕ) → Rises (slots_at rows rank)

-- the value of the call of that name
abbrev pub value_of : {V : Type 0} → Slots V → OpName → Option V
value_of rows name = value_in (slots_at rows name.rank) (at_of name)

-- the call of that name has the value, and any other the one that it had
abbrev pub SetsOf : {V : Type 0} → OpName → Option V → Slots V → Slots V → Type 0
SetsOf {V} name value old new = (n : OpName) → value_of new n ≡ (if same_name name n then value else value_of old n)

-- each call has the value that it had
abbrev pub KeepsValues : {V : Type 0} → Slots V → Slots V → Type 0
KeepsValues {V} old new = (n : OpName) → value_of new n ≡ value_of old n

-- a value with its name
abbrev pub named : {V : Type 0} → ℕ → At → V → OpName × V
named rank at v = (record { rank = rank; call = at.call; part = at.part }, v)

-- what a slot of a rank holds, under the name of its call
abbrev pub entry_in : {V : Type 0} → ℕ → Slot V → Option (OpName × V)
entry_in rank s = option_map (named rank s.at) s.value

-- the values of ranks from a first one on
abbrev pub entries_from : {V : Type 0} → ℕ → Slots V → List (OpName × V)
entries_from rank [] = []
entries_from rank (row ∷ rows) = filter_map (entry_in rank) row.items ++ entries_from (suc rank) rows

-- what the slots of all ranks hold, in order
abbrev pub entries_of : {V : Type 0} → Slots V → List (OpName × V)
entries_of rows = entries_from zero rows
