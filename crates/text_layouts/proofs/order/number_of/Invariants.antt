use Rattle.std.proofs.Common.{◌≡◌, take}
use Rattle.std.specs.List.{fold}
use Rattle.text_layouts.specs.Names.{byte_after, nothing}
use Rattle.text_layouts.proofs.order.number_of.Given as goal

abbrev pub invariant-loop-byte : goal.invariant-loop-byte
invariant-loop-byte l = l.ends ≡ fold byte_after nothing (take l.byte-index l.name)
