use Rattle.std.proofs.Common.{◌∙◌, ℤ, ap}
use Rattle.std.specs.Ordering.{int_eq}
use Rattle.std.proofs.Math.Facts.{to_z-of_z}
use Rattle.indexmap.specs.IndexSet.{contains}
use Rattle.trace_ops.specs.Ops.{Ops}
use Rattle.trace_wait.specs.Requests.{is_idle}
use Rattle.trace_wait.proofs.active.Posts.is_idle.Goals as goal

pub returns : goal.returns
returns c =
    c.is_in.ensures ∙ ap (λ (z : ℤ). contains int_eq c.self.inside.idle z) (to_z-of_z c.ranges.x)
    ∙ c.self.invariant.1 c.args.x ∙ ap (λ (o : Ops). is_idle o c.args.x) c.self.view_is
