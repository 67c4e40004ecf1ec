use Rattle.std.proofs.Common.{◌≡◌, ◌++◌, ◌∷◌, take}
use Rattle.json.specs.Token.{begin_array}
use Rattle.text_layouts.proofs.Putting.{tokens_of}
use Rattle.text_layouts.specs.Found.{comm_value}
use Rattle.text_layouts.proofs.found.put_comms.Given as goal

abbrev pub invariant-loop-comm : goal.invariant-loop-comm
invariant-loop-comm l = record {
  before : l.out.before ≡ l.fn.out.before;
  put : l.out.tokens ≡ l.fn.out.tokens ++ begin_array ∷ tokens_of (comm_value l.world) (take l.comm-index l.comms);
}
