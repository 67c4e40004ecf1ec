-- The places of the first three things of a list that pass a test.
use Rattle.std.specs.Prelude.{ℕ, zero, suc, Bool, ◌==◌, nat_lt, if◌then◌else◌, Option, Some, None, List, [], ◌∷◌, slice_get, take}

-- the places of those that pass, counted from a number on
abbrev pub places_from : {X : Type 0} → (X → Bool) → ℕ → List X → List ℕ
places_from p n [] = []
places_from p n (x ∷ xs) = if p x then n ∷ places_from p (suc n) xs else places_from p (suc n) xs

-- the places of the first three that pass
abbrev pub first_places : {X : Type 0} → (X → Bool) → List X → List ℕ
first_places p xs = take 3 (places_from p 0 xs)

-- the lesser of two numbers that may be absent
abbrev pub lesser : Option ℕ → Option ℕ → Option ℕ
lesser None b = b
lesser (Some a) None = Some a
lesser (Some a) (Some b) = if nat_lt b a then Some b else Some a

-- the list without this number, where that is the first one
abbrev pub behind : ℕ → List ℕ → List ℕ
behind k [] = []
behind k (x ∷ xs) = if x == k then xs else x ∷ xs

-- the number, where there is one, and what it makes
abbrev pub begun_by : Option ℕ → (ℕ → List ℕ) → List ℕ
begun_by None rest = []
begun_by (Some k) rest = k ∷ rest k

-- the first n numbers that stand in one of two rising lists
abbrev pub first_of : ℕ → List ℕ → List ℕ → List ℕ
first_of zero xs ys = []
first_of (suc n) xs ys = begun_by (lesser (slice_get xs 0) (slice_get ys 0)) (λ k. first_of n (behind k xs) (behind k ys))
