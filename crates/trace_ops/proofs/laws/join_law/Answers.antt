use Rattle.std.proofs.Common.{◌≤◌, inl, inr, ⊎_elim}
use Rattle.trace_know.specs.View.{join}
use Rattle.trace_know.specs.Prefix.{events_of, prefix_of, is_beyond}
use Rattle.trace_ops.proofs.Joined.{grown_by, le_or_ge}
use Rattle.trace_ops.proofs.laws.join_law.Goals as goal

pub returns : goal.returns
returns c layout a b rank =
    let above = c.join_laws.ensures.above_one a b in
    ⊎_elim
    (λ (le : prefix_of a rank ≤ prefix_of (join a b) rank). inl (grown_by layout rank (c.ops_laws.ensures.grow layout rank) (is_beyond a rank) (is_beyond (join a b) rank) (events_of a rank) (events_of (join a b) rank) (c.growth_laws.ensures.grown a (join a b) rank above le)))
    (λ (le : prefix_of (join a b) rank ≤ prefix_of a rank). inr (grown_by layout rank (c.ops_laws.ensures.grow layout rank) (is_beyond (join a b) rank) (is_beyond a rank) (events_of (join a b) rank) (events_of a rank) (c.growth_laws.ensures.cut a (join a b) rank above le)))
    (le_or_ge (prefix_of a rank) (prefix_of (join a b) rank))
