-- A check as JSON: the four numbers of its lines, and whether both hold.
use Rattle.std.specs.Prelude.{ℕ, ◌+◌, ◌-◌, ◌^◌, ◌==◌, ◌&&◌, Bool, true, false, List, [], ◌∷◌, ◌++◌, codes, fold, min, nat_le, if◌then◌else◌}
use Rattle.command_runs.specs.declared.verbs.check_json.Scan.{Scan}

-- what stands in front of a number: of the first, the second, the third, and those behind
abbrev pub key : ℕ → List ℕ
key number = if number == 0 then codes "{\"check\":1,\"pairs\":"
    else if number == 1 then codes ",\"postponed\":"
    else if number == 2 then codes ",\"stuck\":"
    else codes ",\"released\":"

-- what stands behind the last one
abbrev pub end_text : Bool → List ℕ
end_text held = if held then codes ",\"holds\":true}\n" else codes ",\"holds\":false}\n"

-- what was made of the bytes so far: the JSON, how many numbers it has, and whether the last byte was a digit
pub record Scanned : Type 0 where
  pub text : List ℕ
  pub numbers : ℕ
  pub inside : Bool

-- what was made so far
abbrev pub of_scan : Scan → Scanned
of_scan s = record { text = s.text.items; numbers = s.numbers; inside = s.inside }

-- with one byte more of a number
abbrev pub with_digit : Scanned → ℕ → Scanned
with_digit s byte = if s.inside then record { text = s.text ++ byte ∷ []; numbers = s.numbers; inside = s.inside }
    else record { text = (s.text ++ key s.numbers) ++ byte ∷ []; numbers = min (s.numbers + 1) (2 ^ 64 - 1); inside = true }

-- with one byte more: a digit stays, all else ends a number
abbrev pub next : Scanned → ℕ → Scanned
next s byte = if nat_le 48 byte && nat_le byte 57 then with_digit s byte else record { text = s.text; numbers = s.numbers; inside = false }

-- nothing yet
abbrev pub nothing : Scanned
nothing = record { text = []; numbers = 0; inside = false }

-- the lines of a check as JSON
abbrev pub check_json : Bool → List ℕ → List ℕ
check_json held lines = (fold next nothing lines).text ++ end_text held
