use Rattle.std.proofs.Common.{take}
use Rattle.std.specs.List.{flat_map}
use Rattle.call_words.specs.Texts.{Adds}
use Rattle.text_layouts.specs.Words.{left_text}
use Rattle.text_layouts.proofs.words.put_each_left.Given as goal

abbrev pub invariant-loop-left : goal.invariant-loop-left
invariant-loop-left l = Adds l.fn.out l.out (flat_map left_text (take l.left-index l.left_out))
