use Rattle.std.proofs.Common.{take}
use Rattle.std.specs.List.{flat_map}
use Rattle.call_words.specs.Texts.{Adds}
use Rattle.text_notes.specs.Words.{next_text}
use Rattle.text_notes.proofs.words.put_each_next.Given as goal

abbrev pub invariant-loop-function : goal.invariant-loop-function
invariant-loop-function l = Adds l.fn.out l.out (flat_map next_text (take l.function-index l.functions))
