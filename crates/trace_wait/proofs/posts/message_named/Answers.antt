use Rattle.std.proofs.Common.{◌∙◌, List, ap, subst, sym}
use Rattle.std.specs.List.{find}
use Rattle.mpi_model.specs.declared.message.Message.{Message}
use Rattle.trace_ops.specs.Order.{AreInOrder}
use Rattle.trace_wait.specs.Parts.{is_of}
use Rattle.trace_wait.proofs.Named.{in_order}
use Rattle.trace_wait.proofs.posts.message_named.Goals as goal

pub send_in-requires : goal.send_in-requires
send_in-requires c = subst (λ (l : List Message). AreInOrder l) (sym c.sends_at.ensures) (in_order 0 c.args.ops.now c.args.name.rank c.requires).0

pub returns : goal.returns
returns c = c.send_in.ensures ∙ ap (λ (l : List Message). find (λ m. is_of c.args.name m.name) l) c.sends_at.ensures
