use Rattle.trace_node.proofs.answer.parts.RankReading.of.Goals as goal

pub returns : goal.returns
returns c = record {
  prefix = c.prefix.ensures;
  beyond = c.beyond.ensures;
  unread = c.is_unread.ensures;
  conflicts = c.in_ok-conflicts.ensures;
}
