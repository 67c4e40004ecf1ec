use Rattle.std.proofs.Common.{List, subst, sym, ap, ◌∙◌}
use Rattle.mpi_model.specs.declared.message.Message.{Message}
use Rattle.trace_pair.specs.Rising.{AreRising}
use Rattle.trace_pair.specs.Waiting.{untaken}
use Rattle.trace_pair.proofs.Owned.{all_sends_rise}
use Rattle.trace_pair.proofs.Settling.{settled_none}
use Rattle.trace_pair.proofs.batch.all_waiting.Goals as goal

pub new-requires : goal.new-requires
new-requires c = subst (λ (l : List Message). AreRising (λ (m : Message). m.name) l) (sym c.in_ok-sends.ensures) (all_sends_rise c.args.ops.now 0 c.requires)

pub returns : goal.returns
returns c = settled_none c.args.ops.now c.in_ok-messages.messages c.empty.result c.empty-2.result c.requires (c.in_ok-messages.ensures ∙ ap untaken c.in_ok-sends.ensures) c.empty.ensures c.empty-2.ensures
