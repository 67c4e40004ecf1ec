use Rattle.std.proofs.Common.{◌≡◌, drop}
use Rattle.text_layouts.specs.Names.{twice_from}
use Rattle.text_layouts.proofs.order.twice_in.Given as goal

abbrev pub invariant-loop-first : goal.invariant-loop-first
invariant-loop-first l = twice_from l.first (drop l.first l.numbers) ≡ twice_from 0 l.numbers
