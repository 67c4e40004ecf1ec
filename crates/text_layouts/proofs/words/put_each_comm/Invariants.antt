use Rattle.std.proofs.Common.{take}
use Rattle.std.specs.List.{flat_map}
use Rattle.call_words.specs.Texts.{Adds}
use Rattle.text_layouts.specs.Words.{comm_text}
use Rattle.text_layouts.proofs.words.put_each_comm.Given as goal

abbrev pub invariant-loop-comm : goal.invariant-loop-comm
invariant-loop-comm l = Adds l.fn.out l.out (flat_map comm_text (take l.comm-index l.comms))
