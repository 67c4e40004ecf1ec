use Rattle.std.proofs.Common.{filter, Some, None, ◌||◌}
use Rattle.trace_pair.specs.Lanes.{is_within}
use Rattle.trace_pair.specs.Queues.{of_kind}
use Rattle.trace_pair.proofs.Latest.{last_of_all}
use Rattle.trace_pair.proofs.opened.Opened.last_for.Goals as goal

pub returns : goal.returns
returns c =
    let m = c.args.m.now in
    let xs = filter (is_within c.args.limit) c.args.self.now in
    let a = of_kind (Some m.from) (Some m.tag) in
    let b = of_kind (Some m.from) None in
    let d = of_kind None (Some m.tag) in
    let e = of_kind None None in
    last_of_all xs m c.later_of.result
    (c.later_of.ensures xs m (λ r. a r || b r) (λ r. d r || e r)
    (c.later_of-told.ensures xs m a b c.last_with.ensures c.last_with-2.ensures) (c.later_of-untold.ensures xs m d e c.last_with-3.ensures c.last_with-4.ensures))
