use Rattle.std.proofs.Common.{◌≡◌, take}
use Rattle.text_notes.specs.Words.{all_added}
use Rattle.text_notes.proofs.totals.Totals.add_all.Given as goal

abbrev pub invariant-loop-function : goal.invariant-loop-function
invariant-loop-function l = l.self ≡ all_added l.fn.self (take l.function-index l.functions)
