-- The two lines of a check.
use Rattle.std.specs.Prelude.{◌≡◌, ◌↔◌, ◌++◌, ℕ, Bool, true, if◌then◌else◌, Option, List, codes, decimal, length}
use Rattle.trace_ops.specs.declared.state.State.{State}
use Rattle.trace_pair.specs.Table.{Table}
use Rattle.trace_stuck.specs.declared.condition.Condition.{Condition}
use Rattle.trace_stuck.specs.declared.verdict.Verdict.{Verdict}
use Rattle.trace_check.specs.Right.{IsRight, IsRightVerdict}

-- whether both tables are the same, in a word that ends its line
abbrev pub equal_word : Bool → List ℕ
equal_word equal = if equal then codes "equal\n" else codes "unequal\n"

-- whether the verdict is right, in a word that ends its line
abbrev pub valid_word : Bool → List ℕ
valid_word valid = if valid then codes "valid\n" else codes "invalid\n"

-- a count, behind what is counted
abbrev pub count_text : List ℕ → ℕ → List ℕ
count_text name count = name ++ codes " " ++ decimal count

-- a line: two counts, and a word on them
abbrev pub check_line : List ℕ → ℕ → List ℕ → ℕ → List ℕ → List ℕ
check_line name count other more word = codes "check " ++ count_text name count ++ codes " " ++ count_text other more ++ codes " " ++ word

-- `check pairs P postponed Q equal`, or `unequal`
abbrev pub pairs_line : ℕ → ℕ → Bool → List ℕ
pairs_line pairs postponed equal = check_line (codes "pairs") pairs (codes "postponed") postponed (equal_word equal)

-- `check stuck S released R valid`, or `invalid`
abbrev pub stuck_line : ℕ → ℕ → Bool → List ℕ
stuck_line stuck released valid = check_line (codes "stuck") stuck (codes "released") released (valid_word valid)

-- both lines
abbrev pub check_text : ℕ → ℕ → Bool → ℕ → ℕ → Bool → List ℕ
check_text pairs postponed equal stuck released valid = pairs_line pairs postponed equal ++ stuck_line stuck released valid

-- The lines tell of two tables and of a verdict: they count the pairs and postponed messages of the first table and the
-- ranks of the verdict, say `equal` just where the tables are the same, and `valid` just where the verdict is right.
abbrev pub IsCheckText : Table → Table → List State → List (Option Condition) → List ℕ → List ℕ → List ℕ → Type 0
IsCheckText first second states conditions stuck release text = (equal : Bool) × (valid : Bool)
    × ((equal ≡ true) ↔ (first ≡ second)) × ((valid ≡ true) ↔ IsRight states conditions stuck release)
    × (text ≡ check_text (length first.pairs) (length first.postponed) equal (length stuck) (length release) valid)

-- the lines tell of two tables and of both lists of a verdict
abbrev pub TellsCheck : Table → Table → List State → List (Option Condition) → Verdict → List ℕ → Type 0
TellsCheck first second states conditions verdict text = IsCheckText first second states conditions verdict.stuck.items verdict.release.items text

-- both lines say so: the tables are the same, and the verdict is right
abbrev pub IsRightCheck : Table → Table → List State → List (Option Condition) → Verdict → Type 0
IsRightCheck first second states conditions verdict = (first ≡ second) × IsRightVerdict states conditions verdict
