-- Splitting a communicator (MPI 4.0, 7.4.2).
use Rattle.std.specs.Prelude.{ℕ, ℤ, ◌+◌, Bool, true, false, List, [], ◌∷◌, Option, Some, None, is_some}
use Rattle.std.specs.List.{list_all, list_any}
use Rattle.comm_groups.specs.Splits.{Group, IsSplit}
use Rattle.comm_groups.specs.declared.color.Colored.{Colored}
use Rattle.comm_makings.specs.Here.{making_at}
use Rattle.comm_makings.specs.Parts.{IsOfGroups}
use Rattle.comm_makings.specs.declared.calls.Color.{Color}
use Rattle.comm_makings.specs.declared.calls.Color.TheVariants as colors
use Rattle.comm_makings.specs.declared.calls.Making.{Making}
use Rattle.comm_makings.specs.declared.calls.Making.TheVariants as makings
use Rattle.comm_makings.specs.declared.calls.RankCalls.{RankCalls}
use Rattle.comm_makings.specs.declared.here.Here.{Here}
use Rattle.comm_makings.specs.declared.parts.Outcome.{Outcome}
use Rattle.comm_makings.specs.declared.splits.Asked.{Asked}
use Rattle.comm_makings.specs.declared.splits.Asked.TheVariants as asks

-- what a color and a key ask: the key counts only where the color is a number
abbrev pub asked_with : Option Color → Option ℤ → Asked
asked_with None key = asks.Unknown
asked_with (Some colors.Undefined) key = asks.Nothing
asked_with (Some (colors.Number color)) None = asks.Unknown
asked_with (Some (colors.Number color)) (Some key) = asks.Part color key

-- what a making asks: only a split says a color and a key
abbrev pub asked_in : Making → Asked
asked_in (makings.Split color key) = asked_with color key
asked_in _ = asks.Unknown

-- the same, where the call makes communicators
abbrev pub asked_of : Option Making → Asked
asked_of (Some making) = asked_in making
asked_of None = asks.Unknown

-- what a member asks
abbrev pub asked_by : List RankCalls → Option Here → Asked
asked_by ranks None = asks.Missing
asked_by ranks (Some here) = asked_of (making_at ranks here.rank here.at)

-- What is asked can't be read.
abbrev pub tells_nothing : Asked → Bool
tells_nothing asks.Unknown = true
tells_nothing _ = false

-- the call of a member says what can't be read
abbrev pub is_unknown : List RankCalls → Option Here → Bool
is_unknown ranks here = tells_nothing (asked_by ranks here)

-- the call of some member says what can't be read
abbrev pub some_unknown : List RankCalls → List (Option Here) → Bool
some_unknown ranks all = list_any (is_unknown ranks) all

-- Each member has its call.
abbrev pub all_here : List (Option Here) → Bool
all_here all = list_all is_some all

-- a member at this place before others
abbrev pub colored_by : ℕ → Asked → List Colored → List Colored
colored_by place (asks.Part color key) others = record { color = color; key = key; rank = place } ∷ others
colored_by place _ others = others

-- The members that name a color, by their places in the parent, the first of which is this one.
abbrev pub colored : List RankCalls → ℕ → List (Option Here) → List Colored
colored ranks place [] = []
colored ranks place (here ∷ all) = colored_by place (asked_by ranks here) (colored ranks (place + 1) all)

-- one communicator for each color that is named, with the members by key and then by their ranks in the parent
abbrev pub IsOfColors : List Colored → Outcome → Type 0
IsOfColors asked outcome = (groups : List Group) × IsSplit asked groups × IsOfGroups groups None outcome

-- the same of the colors that the members' calls name
abbrev pub IsOfCalls : List RankCalls → List (Option Here) → Outcome → Type 0
IsOfCalls ranks all outcome = IsOfColors (colored ranks 0 all) outcome
