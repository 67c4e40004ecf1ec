use Rattle.std.proofs.Common.{◌∙◌, ap}
use Rattle.trace_pair.specs.Table.{Table}
use Rattle.trace_node.specs.Answer.{waits_of}
use Rattle.trace_node.proofs.Waits.{all_stopped}
use Rattle.trace_node.proofs.answer.gather.answer_of.Goals as goal

pub returns : goal.returns
returns c view reading tell =
    let stopped = c.in_ok-waiting.ensures.stuck in
    record {
      ranks = c.ranks.ensures.value;
      sends = c.sends.ensures;
      prefixes = reading.prefixes;
      beyond = reading.beyond;
      unread = reading.unread;
      conflicts = reading.conflicts;
      pairs = c.matching_of.ensures.pairs ∙ ap (λ (t : Table). t.pairs) c.requires.table;
      postponed = c.matching_of.ensures.postponed ∙ ap (λ (t : Table). t.postponed) c.requires.table;
      rounds = c.in_ok-waiting.ensures.rounds;
      states = c.in_ok-waiting.ensures.states;
      stuck = (stopped.0, stopped.1, stopped.2 ∙ all_stopped view c.args.walls.now c.args.ops.now (waits_of c.args.layout.now c.args.ops.now) tell stopped.0);
      foreign = c.foreign_of.ensures;
    }
