-- The text of each rank, where some rank may have none: by the numbers at the ends of the names.
use Rattle.std.specs.Prelude.{◌≡◌, ℕ, zero, suc, ◌+◌, ◌-◌, ◌^◌, ◌==◌, ◌&&◌, Bool, true, false, List, [], ◌∷◌, ◌++◌, Option, Some, None, String, codes, fold, is_some, length, map, min, nat_le, nat_lt, option_and_then, option_map, slice_get, string_bytes, if◌then◌else◌}
use Rattle.std.specs.declared.alloc.Global.{Global}
use Rattle.mpi_model.specs.declared.layout.TheConstants.{MOST_RANKS}
use Rattle.comm_makings.specs.declared.calls.RankCalls.{RankCalls}
use Rattle.call_words.specs.Ranges.{named_ranks_text}
use Rattle.run_files.specs.Manifests.{PieceParts, whole_text}
use Rattle.text_layouts.specs.Names.{are_numbered, first_from, numbers_of}

-- ---- how many ranks there are

-- the first where there is one
abbrev pub size_or : Option ℕ → Option ℕ → Option ℕ
size_or None later = later
size_or (Some size) later = Some size

-- the first size of MPI_COMM_WORLD that a text tells
abbrev pub told_size : List RankCalls → Option ℕ
told_size [] = None
told_size (calls ∷ ranks) = size_or calls.size (told_size ranks)

-- a name has a number, and it is below this one
abbrev pub is_below : ℕ → Option ℕ → Bool
is_below most None = false
is_below most (Some number) = nat_lt number most

-- each name has a number, all below this one
abbrev pub are_below : ℕ → List (Option ℕ) → Bool
are_below most [] = true
are_below most (number ∷ numbers) = is_below most number && are_below most numbers

-- the greater of two numbers
abbrev pub greater : ℕ → ℕ → ℕ
greater one other = if nat_lt one other then other else one

-- so many ranks, or one more than a number
abbrev pub with_number : ℕ → Option ℕ → ℕ
with_number count None = count
with_number count (Some number) = greater count (min (number + 1) (2 ^ 64 - 1))

-- one more than the greatest number
abbrev pub count_of : List (Option ℕ) → ℕ
count_of numbers = fold with_number 0 numbers

-- so many ranks, unless each of so many texts is of one of them
abbrev pub unless_each : ℕ → ℕ → Option ℕ
unless_each texts count = if count == texts then None else if nat_le count MOST_RANKS then Some count else None

-- How many ranks there are by the numbers of the names, where some rank has no text: as many as the size says, if all
-- numbers are below it; or, if no text tells a size and a name has the number 0, one more than the greatest number.
abbrev pub spread_of : Option ℕ → List (Option ℕ) → Option ℕ
spread_of (Some size) numbers = if are_below size numbers then unless_each (length numbers) size else None
spread_of None numbers = if is_some (first_from 0 0 numbers) && are_below MOST_RANKS numbers then unless_each (length numbers) (count_of numbers) else None

-- the first place of a name without a number below this one, where the first of these has this place
abbrev pub first_beyond : ℕ → ℕ → List (Option ℕ) → Option ℕ
first_beyond most place [] = None
first_beyond most place (number ∷ numbers) = if is_below most number then first_beyond most (place + 1) numbers else Some place

-- The first place of a number that is of no rank, since a layout has fewer: where no text tells a size, and each name has a
-- number and one has 0, the numbers are those of ranks.
abbrev pub beyond_of : Option ℕ → List (Option ℕ) → Option ℕ
beyond_of (Some size) numbers = None
beyond_of None numbers = if is_some (first_from 0 0 numbers) && are_numbered numbers then first_beyond MOST_RANKS 0 numbers else None

-- ---- the text of each rank

-- the text whose name has the number of the rank
abbrev pub text_of : List (Option ℕ) → List (List ℕ) → ℕ → Option (List ℕ)
text_of numbers names rank = option_and_then (slice_get names) (first_from rank 0 numbers)

-- the text of each of so many ranks
abbrev pub texts_upto : List (Option ℕ) → List (List ℕ) → ℕ → List (Option (List ℕ))
texts_upto numbers names zero = []
texts_upto numbers names (suc ranks) = texts_upto numbers names ranks ++ text_of numbers names ranks ∷ []

-- the texts, each of the rank of its place
abbrev pub in_order : List (List ℕ) → List (Option (List ℕ))
in_order names = map (λ name. Some name) names

-- the first text whose name has a number that is of no rank, by the size that is told
abbrev pub beyond_by : Option ℕ → List (List ℕ) → Option (List ℕ)
beyond_by size names = option_and_then (slice_get names) (beyond_of size (numbers_of names))

-- for how many ranks the names are spread by their numbers, by the size that is told
abbrev pub spread_by : Option ℕ → List (List ℕ) → Option ℕ
spread_by size names = spread_of size (numbers_of names)

-- the text of each rank: by the numbers of the names for so many ranks, else in the order of the names
abbrev pub seats_for : Option ℕ → List (List ℕ) → List (Option (List ℕ))
seats_for None names = in_order names
seats_for (Some count) names = texts_upto (numbers_of names) names count

-- the text of each rank, by the size that is told
abbrev pub seats_by : Option ℕ → List (List ℕ) → List (Option (List ℕ))
seats_by size names = seats_for (spread_by size names) names

-- names that are kept, as names
abbrev pub kept : List (Option (String Global)) → List (Option (List ℕ))
kept seats = map (λ seat. option_map string_bytes seat) seats

-- The names are spread by their numbers for so many ranks, and these are the texts of each.
abbrev pub IsSpread : Option ℕ → List (List ℕ) → List (Option (String Global)) → Type 0
IsSpread spread names seats = (count : ℕ) × (spread ≡ Some count) × (kept seats ≡ texts_upto (numbers_of names) names count)

-- ---- the manifest

-- the whole text of a rank, where it has one
abbrev pub one_text : ℕ → Option (List ℕ) → List PieceParts
one_text rank None = []
one_text rank (Some file) = whole_text rank file ∷ []

-- what is of this rank and of those behind it
abbrev pub from_rank : {X : Type 0} → (ℕ → Option (List ℕ) → List X) → ℕ → List (Option (List ℕ)) → List X
from_rank one rank [] = []
from_rank one rank (seat ∷ seats) = one rank seat ++ from_rank one (rank + 1) seats

-- the whole texts of the ranks that have one
abbrev pub texts_from : ℕ → List (Option (List ℕ)) → List PieceParts
texts_from rank seats = from_rank one_text rank seats

-- ---- ranks without a text

-- the rank, where it has no text
abbrev pub one_missing : ℕ → Option (List ℕ) → List ℕ
one_missing rank None = rank ∷ []
one_missing rank (Some file) = []

-- the ranks that have no text
abbrev pub missing_from : ℕ → List (Option (List ℕ)) → List ℕ
missing_from rank seats = from_rank one_missing rank seats

-- `no text of rank 1`, between these words; nothing where each rank has one
abbrev pub missing_text : List ℕ → List ℕ → List ℕ → List ℕ
missing_text front [] end = []
missing_text front (rank ∷ ranks) end = front ++ codes "no text of " ++ named_ranks_text (rank ∷ ranks) ++ end
