use Rattle.std.proofs.Common.{◌≡◌, ◌&&◌, drop}
use Rattle.std.specs.List.{list_all}
use Rattle.dumpi_text.specs.Time.{is_digit}
use Rattle.dumpi_text.proofs.time.only_digits.Given as goal

abbrev pub invariant-loop-byte : goal.invariant-loop-byte
invariant-loop-byte l = (l.all && list_all is_digit (drop l.byte-index l.text)) ≡ list_all is_digit l.text
