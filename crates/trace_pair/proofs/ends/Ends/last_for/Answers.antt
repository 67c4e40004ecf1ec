use Rattle.std.proofs.Common.{Some, None, ◌||◌}
use Rattle.trace_pair.specs.Queues.{of_kind}
use Rattle.trace_pair.proofs.Latest.{last_of_all}
use Rattle.trace_pair.proofs.ends.Ends.last_for.Goals as goal

pub returns : goal.returns
returns c = λ opened s.
    let m = c.args.m.now in
    let a = of_kind (Some m.from) (Some m.tag) in
    let b = of_kind (Some m.from) None in
    let d = of_kind None (Some m.tag) in
    let e = of_kind None None in
    last_of_all opened m c.later_of.result
    (c.later_of.ensures opened m (λ r. a r || b r) (λ r. d r || e r)
    (c.later_of-told.ensures opened m a b (c.last_with.ensures opened s) (c.last_with-2.ensures opened s)) (c.later_of-untold.ensures opened m d e (c.last_with-3.ensures opened s) (c.last_with-4.ensures opened s)))
