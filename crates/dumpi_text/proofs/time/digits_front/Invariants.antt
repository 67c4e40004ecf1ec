use Rattle.std.proofs.Common.{◌≡◌, ◌≤◌, take, true}
use Rattle.std.specs.List.{list_all}
use Rattle.dumpi_text.specs.Time.{is_digit, number_of}
use Rattle.dumpi_text.proofs.time.digits_front.Given as goal

abbrev pub invariant-loop-at : goal.invariant-loop-at
invariant-loop-at l = record {
  range : l.number ≤ 9999999999;
  digits : list_all is_digit (take l.at l.text) ≡ true;
  number : l.number ≡ number_of (take l.at l.text);
}
