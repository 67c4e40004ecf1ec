use Rattle.std.proofs.Common.{List, subst, sym}
use Rattle.trace_ops.specs.RankOps.{all_ops}
use Rattle.trace_pair.specs.Certainty.{AreCertain, AreLegal, AreNoneAfter, AreTheOnlyLegal}
use Rattle.trace_pair.specs.declared.pair.Pair.{Pair}
use Rattle.trace_node.proofs.laws.answers_are_certain.Goals as goal

pub returns-clause-certain : goal.returns-clause-certain
returns-clause-certain c = λ layout view a is.
    let ops = all_ops layout view in
    subst (λ (l : List Pair). AreCertain ops l) (sym is.pairs) (c.tables_are_certain.ensures.certain ops (c.ops_laws.ensures.all layout view))

pub returns-clause-legal : goal.returns-clause-legal
returns-clause-legal c = λ layout view a is told none.
    let ops = all_ops layout view in
    subst (λ (l : List Pair). AreLegal ops l) (sym is.pairs)
    (c.tables_are_certain.ensures.legal ops (c.ops_laws.ensures.all layout view) told (subst (λ (l : List Pair). AreNoneAfter ops l) is.pairs none))

pub returns-clause-only : goal.returns-clause-only
returns-clause-only c = λ layout view a is told.
    let ops = all_ops layout view in
    subst (λ (l : List Pair). AreTheOnlyLegal ops l) (sym is.pairs) (c.tables_are_certain.ensures.only ops (c.ops_laws.ensures.all layout view) told)
