use Rattle.std.proofs.Common.{◌∙◌, sym}
use Rattle.trace_node.proofs.ByRank.{none_contradicted}
use Rattle.trace_node.proofs.answer.parts.Reading.none.Goals as goal

pub returns : goal.returns
returns c = record {
  prefixes = c.new.ensures.items;
  beyond = c.new-2.ensures.items;
  unread = c.new-3.ensures.items;
  conflicts = c.new-4.ensures.items ∙ sym (none_contradicted c.listing_laws.ensures.conflicts);
}
