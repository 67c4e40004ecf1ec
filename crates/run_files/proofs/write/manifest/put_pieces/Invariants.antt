use Rattle.std.proofs.Common.{◌≡◌, ◌++◌, ◌∷◌, take}
use Rattle.json.specs.Token.{begin_array}
use Rattle.run_files.specs.Values.{piece_value}
use Rattle.run_files.proofs.Putting.{tokens_of}
use Rattle.run_files.proofs.write.manifest.put_pieces.Given as goal

abbrev pub invariant-loop-text : goal.invariant-loop-text
invariant-loop-text l = record {
  before : l.out.before ≡ l.fn.out.before;
  put : l.out.tokens ≡ l.fn.out.tokens ++ begin_array ∷ tokens_of piece_value (take l.text-index l.texts);
}
