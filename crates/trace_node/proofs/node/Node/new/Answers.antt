use Rattle.std.proofs.Common.{sym, subst}
use Rattle.trace_know.specs.View.{View}
use Rattle.trace_node.specs.Node.{IsWithin}
use Rattle.trace_node.proofs.Within.{within_empty}
use Rattle.trace_node.proofs.node.Node.new.Goals as goal

pub knowing-requires : goal.knowing-requires
knowing-requires c = subst (λ (v : View). IsWithin c.args.layout.now v) (sym c.new.ensures) (within_empty c.args.layout.now)
