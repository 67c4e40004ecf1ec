use Rattle.std.proofs.Common.{◌≡◌, take}
use Rattle.call_arguments.specs.Names.{ends_number}
use Rattle.call_arguments.proofs.name.ends_number.Given as goal

abbrev pub invariant-loop-byte : goal.invariant-loop-byte
invariant-loop-byte l = l.digit ≡ ends_number (take l.byte-index l.text)
