-- Bytes by their names.
use Rattle.std.specs.Prelude.{ℕ}

-- a tab
abbrev pub tab : ℕ
tab = 9

-- a line feed, which ends a line
abbrev pub line_feed : ℕ
line_feed = 10

-- a carriage return
abbrev pub carriage_return : ℕ
carriage_return = 13

-- a space
abbrev pub space : ℕ
space = 32

-- an opening parenthesis
abbrev pub opening_parenthesis : ℕ
opening_parenthesis = 40

-- a closing parenthesis
abbrev pub closing_parenthesis : ℕ
closing_parenthesis = 41

-- a comma
abbrev pub comma : ℕ
comma = 44

-- a minus sign
abbrev pub minus : ℕ
minus = 45

-- a point
abbrev pub point : ℕ
point = 46

-- the digit 0, the first of the ten
abbrev pub zero_digit : ℕ
zero_digit = 48

-- the digit 9, the last of the ten
abbrev pub nine_digit : ℕ
nine_digit = 57

-- an equals sign
abbrev pub equals : ℕ
equals = 61

-- an opening bracket
abbrev pub opening_bracket : ℕ
opening_bracket = 91

-- a closing bracket
abbrev pub closing_bracket : ℕ
closing_bracket = 93

-- an underscore
abbrev pub underscore : ℕ
underscore = 95

-- an opening brace
abbrev pub opening_brace : ℕ
opening_brace = 123

-- a closing brace
abbrev pub closing_brace : ℕ
closing_brace = 125
