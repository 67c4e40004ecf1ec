-- Ordered sets in which things are looked up. No public clause speaks of them.
use Rattle.std.specs.Prelude.{◌≡◌, ◌||◌, ◌&&◌, ◌==◌, ℕ, Bool, Some, List, if◌then◌else◌}
use Rattle.std.specs.declared.cmp.Ordering.{Ordering}
use Rattle.std.specs.BTreeSet.{BTreeSet, contains}
use Rattle.std.specs.BTreeMap.{BTreeMap, get}
use Rattle.trace_wait.specs.declared.round.Round.{Round}
use Rattle.trace_wait.specs.Collectives.{first_in_row}
use Rattle.trace_wait.specs.Patterns.{Place, place_cmp}

-- The keys that pass the test came to the set, and no others.
abbrev pub Notes : {K : Type 0} → (K → K → Ordering) → (K → Bool) → (old new : BTreeSet K) → Type 0
Notes cmp test old new = (x : _) → contains cmp new x ≡ (test x || contains cmp old x)

-- Just the keys that pass the test are in the set.
abbrev pub IsSetOf : {K : Type 0} → (K → K → Ordering) → (K → Bool) → BTreeSet K → Type 0
IsSetOf cmp test set = (x : _) → contains cmp set x ≡ test x

-- Under this round the first one of its row came, and under no other anything changed.
abbrev pub NotesFirst : (comm k first : ℕ) → (old new : BTreeMap Place ℕ) → Type 0
NotesFirst comm k first old new = (c n : ℕ) → get place_cmp new (c, n) ≡ (if (comm == c) && (k == n) then Some first else get place_cmp old (c, n))

-- What is noted for a round is the first one of its row.
abbrev pub AreFirsts : List Round → BTreeMap Place ℕ → Type 0
AreFirsts rounds firsts = (c k first : ℕ) → get place_cmp firsts (c, k) ≡ Some first → first ≡ first_in_row rounds c k
