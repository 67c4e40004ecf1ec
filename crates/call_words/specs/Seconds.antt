-- Nanoseconds as seconds.
use Rattle.std.specs.Prelude.{ℕ, ◌+◌, ◌/◌, ◌%◌, List, [], ◌∷◌, ◌++◌, codes, decimal}

-- the last decimal digit of a number, as a character: 48 is `0`
abbrev pub last_digit : ℕ → ℕ
last_digit n = 48 + n % 10

-- the last nine decimal digits of a number
abbrev pub nine_digits : ℕ → List ℕ
nine_digits n = last_digit (n / 100000000) ∷ last_digit (n / 10000000) ∷ last_digit (n / 1000000)
    ∷ last_digit (n / 100000) ∷ last_digit (n / 10000) ∷ last_digit (n / 1000)
    ∷ last_digit (n / 100) ∷ last_digit (n / 10) ∷ last_digit n ∷ []

-- nanoseconds as seconds: whole seconds without padding, a point, nine decimals
abbrev pub seconds_text : ℕ → List ℕ
seconds_text n = decimal (n / 1000000000) ++ codes "." ++ nine_digits n
