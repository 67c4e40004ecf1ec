use Rattle.std.proofs.Common.{◌≡◌, take}
use Rattle.std.specs.List.{filter_map}
use Rattle.std.specs.Option.{option_map}
use Rattle.trace_pair.specs.After.{comes_after}
use Rattle.trace_pair.specs.Followed.{Follows}
use Rattle.trace_pair.specs.Pairing.{receive_of}
use Rattle.trace_pair.specs.Table.{pair_of, postponed_name, sends_of, receives_of}
use Rattle.trace_pair.proofs.rows.Rows.of_held.Given as goal

abbrev pub invariant-loop-own : goal.invariant-loop-own
invariant-loop-own l = record {
  pairs : Follows l.held l.state → l.rows.pairs ≡ filter_map (λ m. option_map (pair_of m) (receive_of (comes_after l.held) (sends_of l.held) (receives_of l.held) m)) (sends_of (take l.own-index l.held));
  postponed : Follows l.held l.state → l.rows.postponed ≡ filter_map (postponed_name (comes_after l.held) (sends_of l.held) (receives_of l.held)) (sends_of (take l.own-index l.held));
}
