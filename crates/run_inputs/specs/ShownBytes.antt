-- How bytes of a text stand in a line for a person.
use Rattle.std.specs.Prelude.{ℕ, false, List, ◌++◌, codes, decimal, flat_map, if◌then◌else◌, length, nat_lt, take}
use Rattle.std.specs.Fmt.{digits}
use Rattle.run_inputs.specs.FileNames.{shown_char}
use Rattle.run_inputs.specs.declared.faults.shown_bytes.TheConstants.{LONGEST_SHOWN}

-- a byte: an ASCII character as in a file's name, any other by its number, as Rust escapes it
abbrev pub shown_byte : ℕ → List ℕ
shown_byte byte = if nat_lt byte 128 then shown_char byte else codes "\\x" ++ digits 16 false byte

-- bytes, each in its place
abbrev pub shown_bytes : List ℕ → List ℕ
shown_bytes bytes = flat_map shown_byte bytes

-- that a text has these bytes for a parameter
abbrev pub shown_text : List ℕ → List ℕ → List ℕ
shown_text name bytes = codes "  the text has `" ++ name ++ codes "=" ++ shown_bytes bytes ++ codes "`"

-- how many bytes there are of a value that is cut off
abbrev pub count_text : ℕ → List ℕ
count_text count = codes ", cut off: the value has " ++ decimal count ++ codes " bytes\n"

-- a value whole
abbrev pub whole_text : List ℕ → List ℕ → List ℕ
whole_text name value = shown_text name value ++ codes "\n"

-- or its first bytes, and how many it has
abbrev pub cut_text : List ℕ → List ℕ → List ℕ
cut_text name value = shown_text name (take LONGEST_SHOWN value) ++ count_text (length value)

-- a long value is cut off
abbrev pub value_text : List ℕ → List ℕ → List ℕ
value_text name value = if nat_lt LONGEST_SHOWN (length value) then cut_text name value else whole_text name value
