use Rattle.std.proofs.Common.{◌≡◌, ◌++◌, take, drop, false}
use Rattle.std.specs.List.{list_any}
use Rattle.dumpi_text.specs.Number.{is_opening}
use Rattle.dumpi_text.specs.Words.{split_at}
use Rattle.dumpi_calls.proofs.quick.before_closing.Given as goal

abbrev pub invariant-loop-at : goal.invariant-loop-at
invariant-loop-at l = record {
  before : take l.at l.text ++ (split_at 41 (drop l.at l.text)).0 ≡ (split_at 41 l.text).0;
  after : (split_at 41 (drop l.at l.text)).1 ≡ (split_at 41 l.text).1;
  plain : list_any is_opening (take l.at l.text) ≡ false;
}
