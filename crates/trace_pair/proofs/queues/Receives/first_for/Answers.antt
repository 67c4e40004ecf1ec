use Rattle.std.proofs.Common.{Some, None, ◌||◌}
use Rattle.trace_pair.specs.Queues.{of_kind}
use Rattle.trace_pair.proofs.Queued.{best_if, best_if_none}
use Rattle.trace_pair.proofs.queues.Receives.first_for.Goals as goal

pub returns-clause-some : goal.returns-clause-some
returns-clause-some c =
    let m = c.args.m.now in
    let xs = c.args.self.now in
    let a = of_kind (Some m.name.rank) (Some m.tag) in
    let b = of_kind (Some m.name.rank) None in
    let d = of_kind None (Some m.tag) in
    let e = of_kind None None in
    best_if xs m c.earlier_of.result
    (c.earlier_of.ensures xs m (λ r. a r || b r) (λ r. d r || e r)
    (c.earlier_of-told.ensures xs m a b c.first_with.ensures c.first_with-2.ensures) (c.earlier_of-untold.ensures xs m d e c.first_with-3.ensures c.first_with-4.ensures))

pub returns-clause-none : goal.returns-clause-none
returns-clause-none c =
    let m = c.args.m.now in
    let xs = c.args.self.now in
    let a = of_kind (Some m.name.rank) (Some m.tag) in
    let b = of_kind (Some m.name.rank) None in
    let d = of_kind None (Some m.tag) in
    let e = of_kind None None in
    best_if_none xs m c.earlier_of.result
    (c.earlier_of.ensures xs m (λ r. a r || b r) (λ r. d r || e r)
    (c.earlier_of-told.ensures xs m a b c.first_with.ensures c.first_with-2.ensures) (c.earlier_of-untold.ensures xs m d e c.first_with-3.ensures c.first_with-4.ensures))
