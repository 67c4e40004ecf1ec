-- Eight digits that are read as one number, the first in its lowest byte, and made into the number that they spell: first
-- the pairs of neighbours, then the fours, then all eight.
use Rattle.std.specs.Prelude.{ℕ, ◌+◌, ◌*◌, ◌/◌, bit_and}

-- by the values of the digits, each in a byte: of each pair ten times the first and the second, in sixteen bits
abbrev pub pairs_of : ℕ → ℕ
pairs_of values = bit_and (10 * values + values / 256) 71777214294589695

-- of each two pairs a hundred times the first and the second, in 32 bits
abbrev pub fours_of : ℕ → ℕ
fours_of pairs = bit_and (100 * pairs + pairs / 65536) 281470681808895

-- ten thousand times the first four and the second
abbrev pub eight_of : ℕ → ℕ
eight_of fours = bit_and (10000 * fours + fours / 4294967296) 4294967295
