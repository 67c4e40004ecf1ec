-- Ranks as ranges.
use Rattle.std.specs.Prelude.{ℕ, ◌+◌, ◌==◌, Bool, if◌then◌else◌, Option, Some, None, List, [], ◌∷◌, ◌++◌, codes, decimal, length}
use Rattle.call_words.specs.declared.ranges.Range.{Range}

-- the rank stands directly behind the range
abbrev pub follows : Range → ℕ → Bool
follows held rank = rank == held.last + 1

-- the range of one rank
abbrev pub alone : ℕ → Range
alone rank = record { first = rank; last = rank }

-- the held range up to a rank that follows it
abbrev pub longer : Range → ℕ → Range
longer held rank = record { first = held.first; last = rank }

-- ` to 11`, where a range has more than one rank
abbrev pub end_text : ℕ → List ℕ
end_text last = codes " to " ++ decimal last

-- `4`, or `4 to 11`
abbrev pub range_text : Range → List ℕ
range_text r = decimal r.first ++ (if r.last == r.first then [] else end_text r.last)

-- the range that is held behind a rank, where this one was held before it
abbrev pub range_behind : Range → ℕ → Range
range_behind held rank = if follows held rank then longer held rank else alone rank

-- what is said of the range before the next rank
abbrev pub text_behind : Range → ℕ → List ℕ
text_behind held rank = if follows held rank then [] else range_text held ++ codes ", "

-- the range that is held once a further rank is there
abbrev pub next_range : Option Range → ℕ → Option Range
next_range None rank = Some (alone rank)
next_range (Some held) rank = Some (range_behind held rank)

-- what is written of the ranks once a further rank is there: nothing while none is held
abbrev pub text_before : Option Range → ℕ → List ℕ
text_before None rank = []
text_before (Some held) rank = text_behind held rank

-- what is said of a range at the end
abbrev pub held_text : Option Range → List ℕ
held_text None = []
held_text (Some held) = range_text held

-- the range that is held behind these ranks
abbrev pub range_after : Option Range → List ℕ → Option Range
range_after held [] = held
range_after held (rank ∷ ranks) = range_after (next_range held rank) ranks

-- what is said before the range that is held behind these ranks
abbrev pub text_of : Option Range → List ℕ → List ℕ
text_of held [] = []
text_of held (rank ∷ ranks) = text_before held rank ++ text_of (next_range held rank) ranks

-- the ranks, neighbours joined: `0 to 11, 13`
abbrev pub ranges_text : List ℕ → List ℕ
ranges_text ranks = text_of None ranks ++ held_text (range_after None ranks)

-- `rank 3`, or `ranks 0 to 11, 13`
abbrev pub named_ranks_text : List ℕ → List ℕ
named_ranks_text ranks = (if length ranks == 1 then codes "rank " else codes "ranks ") ++ ranges_text ranks
