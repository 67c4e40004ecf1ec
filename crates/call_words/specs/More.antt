-- How many more there are.
use Rattle.std.specs.Prelude.{ℕ, zero, suc, List, [], ◌++◌, codes, decimal}

-- the line `  and 3 more`, and none where all are named
abbrev pub more_text : ℕ → List ℕ
more_text zero = []
more_text (suc n) = codes "  and " ++ decimal (suc n) ++ codes " more\n"
