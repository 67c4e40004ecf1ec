-- How a file's name stands in a line for a person.
use Rattle.std.specs.Prelude.{ℕ, false, List, ◌++◌, cond, ◌==◌, codes, flat_map, chars}
use Rattle.std.specs.Char.{encode_utf8, is_control}
use Rattle.std.specs.Fmt.{digits}

-- a control character as an escape of Rust, any other as it stands
abbrev pub shown_char : ℕ → List ℕ
shown_char c =
    cond (c == 0) (codes "\\0")
    (cond (c == 9) (codes "\\t")
    (cond (c == 10) (codes "\\n")
    (cond (c == 13) (codes "\\r")
    (cond (is_control c) (codes "\\u{" ++ digits 16 false c ++ codes "}")
    (encode_utf8 c)))))

-- a file's name, with its control characters as escapes
abbrev pub shown_name : List ℕ → List ℕ
shown_name bytes = flat_map shown_char (chars bytes)
