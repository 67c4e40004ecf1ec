use Rattle.std.proofs.Common.{List, ap, arith, length, sym, ◌∙◌}
use Rattle.std.proofs.lemmas.List.{length-replicate}
use Rattle.trace_node.specs.Node.{Held}
use Rattle.trace_world.proofs.Hearing.{unheard}
use Rattle.trace_world.proofs.Keeping.{opened, opening_shown, opening_fresh}
use Rattle.trace_world.proofs.world.World.new.Goals as goal

pub invariant_of-result : goal.invariant_of-result
invariant_of-result c = (
  opened _ _ _ _ _ (omega arith) (omega arith) c.in-Ok-new_nodes.ensures c.in-Ok.ensures c.new.ensures.items,
  unheard _ _ _ _ (sym (ap (λ (l : List Held). length l) c.in-Ok-new_nodes.ensures ∙ length-replicate _ _)) c.in-Ok-unheard.ensures,
)

pub returns-clause-shows : goal.returns-clause-shows
returns-clause-shows c = opening_shown _ _ _ _ _ c.in-Ok-new_nodes.ensures c.in-Ok.ensures c.new.ensures.items

pub returns-clause-fresh : goal.returns-clause-fresh
returns-clause-fresh c = opening_fresh _ _ _ c.in-Ok-new_nodes.ensures
