use Rattle.std.proofs.Common.{take}
use Rattle.std.specs.List.{flat_map}
use Rattle.call_words.specs.Texts.{Adds}
use Rattle.text_notes.specs.Words.{byte_text}
use Rattle.text_notes.proofs.words.put_name.Given as goal

abbrev pub invariant-loop-byte : goal.invariant-loop-byte
invariant-loop-byte l = Adds l.fn.out l.out (flat_map byte_text (take l.byte-index l.name))
