use Rattle.std.proofs.Common.{◌≡◌, length, vec_len}
use Rattle.trace_stuck.specs.Graph.{edge, is_up}
use Rattle.trace_stuck.specs.Search.{Begun}
use Rattle.trace_stuck.proofs.search.firsts.Given as goal

abbrev pub invariant-loop-first : goal.invariant-loop-first
invariant-loop-first l = record {
  len : vec_len l.labels ≡ length l.edges;
  begun : Begun (edge l.edges) (is_up l.starts) l.first l.labels.items;
}
