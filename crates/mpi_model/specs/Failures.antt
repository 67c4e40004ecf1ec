-- How often a device has failed.
use Rattle.std.specs.Prelude.{◌≡◌, ℕ, ◌+◌, ◌-◌, ◌^◌, ◌≤◌, min, Result, MatchResult}

-- one failure more; the count stays at the greatest value of a `u64`
abbrev pub one_more : ℕ → ℕ
one_more count = min (count + 1) (2 ^ 64 - 1)

-- The device failed between two moments. A count at the greatest value counts as risen.
abbrev pub HasFailed : ℕ → ℕ → Type 0
HasFailed before now = one_more before ≤ now

-- The count rises by one in a call that answers an error, and stays in any other.
abbrev pub CountsFailure : {T E : Type 0} → ℕ → ℕ → Result T E → Type 0
CountsFailure before now r = (before ≤ now) × MatchResult r (λ _. now ≡ before) (λ _. now ≡ one_more before)
