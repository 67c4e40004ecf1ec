use Rattle.std.proofs.Common.{◌≡◌, ◌++◌, ◌∷◌, take}
use Rattle.json.specs.Token.{begin_array}
use Rattle.run_files.specs.Values.{entry_value}
use Rattle.run_files.proofs.Putting.{tokens_of}
use Rattle.run_files.proofs.write.numbers.put_entries.Given as goal

abbrev pub invariant-loop-entry : goal.invariant-loop-entry
invariant-loop-entry l = record {
  before : l.out.before ≡ l.fn.out.before;
  put : l.out.tokens ≡ l.fn.out.tokens ++ begin_array ∷ tokens_of entry_value (take l.entry-index l.entries);
}
