use Rattle.std.specs.Prelude.{◌≡◌, ◌++◌, take}
use Rattle.page_words.specs.Page.{escaped}
use Rattle.page_words.proofs.page.put_value.Given as goal

abbrev pub invariant-loop-byte : goal.invariant-loop-byte
invariant-loop-byte l = l.page.items ≡ l.initial.page.items ++ escaped (take l.byte-index l.json)
