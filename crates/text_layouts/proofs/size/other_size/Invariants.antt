use Rattle.std.proofs.Common.{◌≡◌, drop}
use Rattle.text_layouts.specs.Sizes.{other_size}
use Rattle.text_layouts.proofs.size.other_size.Given as goal

abbrev pub invariant-loop-calls : goal.invariant-loop-calls
invariant-loop-calls l = record {
  counted : l.rank ≡ l.calls-index;
  rest : other_size l.count l.rank (drop l.calls-index l.ranks) ≡ other_size l.count 0 l.ranks;
}
