use Rattle.trace_node.proofs.answer.gather.reading_of.Goals as goal

pub returns : goal.returns
returns c = record {
  prefixes = c.in_ok-prefixes_of.ensures;
  beyond = c.in_ok-beyond_of.ensures;
  unread = c.in_ok-unread_of.ensures;
  conflicts = c.in_ok-conflict_places.ensures;
}
