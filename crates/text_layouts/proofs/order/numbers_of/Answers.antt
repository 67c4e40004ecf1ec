use Rattle.std.proofs.Common.{Global, arith, string_bytes}
use Rattle.text_layouts.specs.Names.{number_of}
use Rattle.text_layouts.proofs.Lines.{all_mapped}
use Rattle.text_layouts.proofs.order.numbers_of.Goals as goal

pub returns : goal.returns
returns c = all_mapped (string_bytes {Z = Global}) number_of c.args.names.now c.loop-name.name-index c.loop-name.numbers.items (omega arith) c.loop-name.invariant
