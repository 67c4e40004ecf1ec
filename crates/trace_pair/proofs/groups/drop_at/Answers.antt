use Rattle.std.specs.Ordering.{is_eq}
use Rattle.trace_pair.specs.Groups.{has}
use Rattle.trace_pair.proofs.Members.{emptied}
use Rattle.trace_pair.proofs.groups.drop_at.Goals as goal

pub returns-clause-dropped : goal.returns-clause-dropped
returns-clause-dropped g c = λ k d.
    emptied (is_eq (g.K.Ord.cmp c.args.key.now k)) (is_eq (g.T.Ord.cmp c.args.x.now d)) (has g.K.Ord.cmp g.T.Ord.cmp c.args.sets.now k d) (has g.K.Ord.cmp g.T.Ord.cmp c.take_from.new.sets k d) (has g.K.Ord.cmp g.T.Ord.cmp c.forget.new.sets k d)
    (c.forget.ensures.gone k d) (c.take_from.ensures.dropped k d) (λ e. c.take_from.ensures.none c.if-not-take_from.false k e d)
