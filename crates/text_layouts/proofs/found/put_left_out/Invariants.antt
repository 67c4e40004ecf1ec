use Rattle.std.proofs.Common.{◌≡◌, ◌++◌, ◌∷◌, take}
use Rattle.json.specs.Token.{begin_array}
use Rattle.text_layouts.proofs.Putting.{tokens_of}
use Rattle.text_layouts.specs.Found.{left_value}
use Rattle.text_layouts.proofs.found.put_left_out.Given as goal

abbrev pub invariant-loop-left : goal.invariant-loop-left
invariant-loop-left l = record {
  before : l.out.before ≡ l.fn.out.before;
  put : l.out.tokens ≡ l.fn.out.tokens ++ begin_array ∷ tokens_of left_value (take l.left-index l.left_out);
}
