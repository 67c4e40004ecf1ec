-- Which requests are active, and which numbers are idle (MPI 4.0, 3.7.3 and 3.9).
use Rattle.std.specs.Prelude.{◌≡◌, ℕ, ℤ, ◌+◌, ◌==◌, Bool, false, if◌then◌else◌, Option, Some, None, is_some, List, [], ◌∷◌, reverse}
use Rattle.std.specs.List.{list_any, filter_map, cons_option}
use Rattle.std.specs.Ordering.{int_cmp, int_eq, is_le}
use Rattle.mpi_model.specs.declared.event.OpName.{OpName}
use Rattle.trace_ops.specs.Calls.{Entry}
use Rattle.trace_ops.specs.Held.{Init, held_in}
use Rattle.trace_ops.specs.Request.{given_of}
use Rattle.trace_ops.specs.Steps.{Placed, Step, name_of, placed, posted_by, touches}

-- the number, with the name of what was posted, where no later step ends it
abbrev pub still_active : OpName → List Step → Option ℤ → Option (ℤ × OpName)
still_active name later None = None
still_active name later (Some x) = if list_any (touches x) later then None else Some (x, name)

-- the number that a step posts, with its name, where no later step ends it
abbrev pub active_post : ℕ → Placed → Option (ℤ × OpName)
active_post rank p = still_active (name_of rank p.step) p.later (posted_by p.step)

-- The active requests after these steps, each with the name of what was posted, in order of posting: a number that is
-- posted anew stands where it was posted last.
abbrev pub active_of : ℕ → List Step → List (ℤ × OpName)
active_of rank steps = filter_map (active_post rank) (placed steps)

-- The number is one of the active ones.
abbrev pub is_active : List (ℤ × OpName) → ℤ → Bool
is_active active x = list_any (λ a. int_eq a.0 x) active

-- By number, whether it is one of the active ones.
abbrev pub KnowsActive : {V : Type 0} → List (ℤ × OpName) → (ℤ → Option V) → Type 0
KnowsActive active kept = (x : ℤ) → is_some (kept x) ≡ is_active active x

-- the init of call n is what holds the number
abbrev pub is_held_by : ℕ → Option Init → Bool
is_held_by n None = false
is_held_by n (Some init) = init.number == n

-- the number that call n gave, where it is an init that holds it after all these calls, of which the last stands first
abbrev pub held_still : List Entry → ℕ → Option ℤ → Option ℤ
held_still all n None = None
held_still all n (Some x) = if is_held_by n (held_in all x) then Some x else None

-- the numbers that inits among these calls, of which the first has number n, hold after all calls
abbrev pub held_of : List Entry → ℕ → List Entry → List ℤ
held_of all n [] = []
held_of all n (c ∷ calls) = cons_option (held_still all n (given_of c.call c.outs)) (held_of all (n + 1) calls)

-- the number at its place among rising ones
abbrev pub put_in : ℤ → List ℤ → List ℤ
put_in x [] = x ∷ []
put_in x (y ∷ ys) = if is_le (int_cmp x y) then x ∷ y ∷ ys else y ∷ put_in x ys

-- the numbers, rising
abbrev pub rising : List ℤ → List ℤ
rising [] = []
rising (x ∷ xs) = put_in x (rising xs)

-- the number, unless it is active
abbrev pub unless_active : List (ℤ × OpName) → ℤ → Option ℤ
unless_active active x = if is_active active x then None else Some x

-- The idle numbers after these calls: an init holds them, and they are not active. They rise.
abbrev pub idle_of : List (ℤ × OpName) → List Entry → List ℤ
idle_of active calls = rising (filter_map (unless_active active) (held_of (reverse calls) 0 calls))
