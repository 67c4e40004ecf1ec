use Rattle.std.proofs.Common.{◌≡◌, map, string_bytes, take}
use Rattle.text_layouts.specs.Names.{number_of}
use Rattle.text_layouts.proofs.order.numbers_of.Given as goal

abbrev pub invariant-loop-name : goal.invariant-loop-name
invariant-loop-name l = l.numbers.items ≡ map (λ name. number_of (string_bytes name)) (take l.name-index l.names)
