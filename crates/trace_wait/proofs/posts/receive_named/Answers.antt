use Rattle.std.proofs.Common.{◌∙◌, List, ap, subst, sym}
use Rattle.std.specs.List.{find}
use Rattle.mpi_model.specs.declared.message.Receive.{Receive}
use Rattle.trace_ops.specs.Order.{ArePosted}
use Rattle.trace_wait.specs.Parts.{is_of}
use Rattle.trace_wait.proofs.Named.{in_order}
use Rattle.trace_wait.proofs.posts.receive_named.Goals as goal

pub receive_in-requires : goal.receive_in-requires
receive_in-requires c = subst (λ (l : List Receive). ArePosted l) (sym c.receives_at.ensures) (in_order 0 c.args.ops.now c.args.name.rank c.requires).1

pub returns : goal.returns
returns c = c.receive_in.ensures ∙ ap (λ (l : List Receive). find (λ q. is_of c.args.name q.name) l) c.receives_at.ensures
