use Rattle.std.proofs.Common.{◌≡◌, ◌++◌, take, drop, true}
use Rattle.std.specs.List.{list_all}
use Rattle.dumpi_text.specs.Time.{is_digit}
use Rattle.dumpi_text.specs.Tokens.{digit_parts}
use Rattle.dumpi_text.proofs.tokens.split_digits.Given as goal

abbrev pub invariant-loop-at : goal.invariant-loop-at
invariant-loop-at l = record {
  before : take l.at l.text ++ (digit_parts (drop l.at l.text)).0 ≡ (digit_parts l.text).0;
  after : (digit_parts (drop l.at l.text)).1 ≡ (digit_parts l.text).1;
  all : list_all is_digit (take l.at l.text) ≡ true;
}
