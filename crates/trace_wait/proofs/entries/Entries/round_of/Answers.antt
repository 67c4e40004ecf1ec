use Rattle.std.proofs.Common.{List, subst, sym}
use Rattle.trace_ops.specs.declared.entered.Entered.{Entered}
use Rattle.trace_ops.specs.Order.{AreEntered}
use Rattle.trace_wait.proofs.InRow.{rounds_own}
use Rattle.trace_wait.proofs.entries.Entries.round_of.Goals as goal

pub entered_at-requires : goal.entered_at-requires
entered_at-requires c = subst (λ (l : List Entered). AreEntered l) (sym c.of_rank.ensures) (rounds_own 0 c.args.self.now c.args.r c.requires)

pub round_number-requires : goal.round_number-requires
round_number-requires c = rounds_own 0 c.args.self.now c.args.r c.requires
