use Rattle.std.proofs.Common.{◌∙◌, ℤ, ap}
use Rattle.std.specs.Ordering.{int_eq}
use Rattle.std.proofs.Math.Facts.{to_z-of_z}
use Rattle.indexmap.specs.IndexMap.{get}
use Rattle.trace_ops.specs.Ops.{Ops}
use Rattle.trace_wait.specs.Requests.{posted_by}
use Rattle.trace_wait.proofs.active.Posts.name_of.Goals as goal

pub returns : goal.returns
returns c =
    c.name_in.ensures ∙ ap (λ (z : ℤ). get int_eq c.self.inside.named z) (to_z-of_z c.ranges.x)
    ∙ c.self.invariant.0 c.args.x ∙ ap (λ (o : Ops). posted_by o c.args.x) c.self.view_is
