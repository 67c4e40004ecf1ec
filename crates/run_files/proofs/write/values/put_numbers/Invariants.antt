use Rattle.std.proofs.Common.{◌≡◌, ◌++◌, ◌∷◌, take}
use Rattle.json.specs.Token.{begin_array}
use Rattle.run_files.specs.Values.{number_of}
use Rattle.run_files.proofs.Putting.{tokens_of}
use Rattle.run_files.proofs.write.values.put_numbers.Given as goal

abbrev pub invariant-loop-number : goal.invariant-loop-number
invariant-loop-number l = record {
  before : l.out.before ≡ l.fn.out.before;
  put : l.out.tokens ≡ l.fn.out.tokens ++ begin_array ∷ tokens_of number_of (take l.number-index l.numbers);
}
