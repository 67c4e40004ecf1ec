-- Tables by request number, and how they change.
use Rattle.std.specs.Prelude.{◌≡◌, ℕ, ℤ, pos, negsuc, nat_lt, if◌then◌else◌, Option, Some, None, List, length, slice_index_or}
use Rattle.std.specs.Ordering.{int_eq}
use Rattle.indexmap.specs.IndexMap.{get}
use Rattle.trace_ops.specs.declared.table.Touched.{Touched}
use Rattle.trace_ops.specs.declared.touched.Touch.{Touch}

-- What is kept of this number became what the change makes of it. What is kept of the others stays.
abbrev pub ChangesAt : {V : Type 0} → ℤ → (Option V → Option V) → (old new : ℤ → Option V) → Type 0
ChangesAt x change old new = (y : ℤ) → new y ≡ (if int_eq x y then change (old y) else old y)

-- What is kept of each number became what the change makes of the number and of what was kept of it.
abbrev pub Becomes : {V : Type 0} → (ℤ → Option V → Option V) → (old new : ℤ → Option V) → Type 0
Becomes change old new = (x : ℤ) → new x ≡ change x (old x)

-- the place of a number in a list of this length, which has places for the numbers from 0 on
abbrev pub low_place : ℕ → ℤ → Option ℕ
low_place count (pos n) = if nat_lt n count then Some n else None
low_place count (negsuc n) = None

-- what stands at a place of the list, or is told otherwise where there is none
abbrev pub kept_at : {V : Type 0} → List (Option V) → Option V → Option ℕ → Option V
kept_at low other None = other
kept_at low other (Some place) = slice_index_or low place None

-- what is kept of a number: in the list where it has a place there, else in the map
abbrev pub kept_of : Touched → ℤ → Option Touch
kept_of t x = kept_at t.low.items (get int_eq t.high x) (low_place (length t.low.items) x)
