-- Lists of numbers that a parameter says.
use Rattle.std.specs.Prelude.{ℕ, ◌+◌, ℤ, pos, negsuc, Bool, List, [], ◌∷◌, Option, Some, None, map, option_and_then, option_map, slice_index_or}
use Rattle.dumpi_text.specs.Value.{value_of}
use Rattle.dumpi_text.specs.declared.number.Num.{Num}
use Rattle.dumpi_text.specs.declared.value.Value.{Value}
use Rattle.dumpi_text.specs.declared.value.Value.TheVariants as values
use Rattle.comm_makings.specs.declared.calls.RankRange.{RankRange}
use Rattle.comm_calls.specs.Numbers.{int_of, is_set, natural_of}

-- a list with one item more in front, where both can be read
abbrev pub with_first : {A : Type 0} → Option A → Option (List A) → Option (List A)
with_first None rest = None
with_first (Some x) rest = option_map (λ xs. x ∷ xs) rest

-- the numbers of a list, where each is a C `int`
abbrev pub ints_of : List Num → Option (List ℤ)
ints_of [] = Some []
ints_of (number ∷ numbers) = with_first (int_of number.value) (ints_of numbers)

-- a list of numbers: a list, or a number as a list of one
abbrev pub all_ints : Value → Option (List ℤ)
all_ints (values.Number number) = ints_of (number ∷ [])
all_ints (values.Numbers numbers) = ints_of numbers
all_ints (values.Groups fields) = None

-- the numbers that a parameter lists
abbrev pub ints_in : Option (List ℕ) → Option (List ℤ)
ints_in text = option_and_then (λ t. option_and_then all_ints (value_of t)) text

-- ranks, none of them negative
abbrev pub naturals_of : List ℤ → Option (List ℕ)
naturals_of [] = Some []
naturals_of (n ∷ ns) = with_first (natural_of n) (naturals_of ns)

-- a list of ranks
abbrev pub ranks_in : Option (List ℕ) → Option (List ℕ)
ranks_in text = option_and_then naturals_of (ints_in text)

-- a dimension's size, and 0 where it is below 1
abbrev pub size_of : ℤ → ℕ
size_of (pos n) = n
size_of (negsuc n) = 0

-- the sizes of the dimensions of a grid
abbrev pub sizes_in : Option (List ℕ) → Option (List ℕ)
sizes_in text = option_map (λ ns. map size_of ns) (ints_in text)

-- a list of flags
abbrev pub flags_in : Option (List ℕ) → Option (List Bool)
flags_in text = option_map (λ ns. map is_set ns) (ints_in text)

-- the range of the three numbers from a place on
abbrev pub range_at : List ℤ → ℕ → RankRange
range_at ns at = record { first = slice_index_or ns at (pos 0); last = slice_index_or ns (at + 1) (pos 0); stride = slice_index_or ns (at + 2) (pos 0) }

-- three numbers a range: its first rank, its last and the stride (MPI 4.0, 7.3.2)
abbrev pub ranges_of : List ℤ → Option (List RankRange)
ranges_of [] = Some []
ranges_of (first ∷ []) = None
ranges_of (first ∷ last ∷ []) = None
ranges_of (first ∷ last ∷ stride ∷ ns) = option_map (λ ranges. record { first = first; last = last; stride = stride } ∷ ranges) (ranges_of ns)

-- a list of ranges of ranks
abbrev pub ranges_in : Option (List ℕ) → Option (List RankRange)
ranges_in text = option_and_then ranges_of (ints_in text)
