use Rattle.std.proofs.Common.{◌∙◌, ap, subst, List}
use Rattle.trace_ops.specs.Ops.{Ops}
use Rattle.trace_pair.specs.Kept.{IsKept}
use Rattle.trace_pair.specs.Table.{table_of}
use Rattle.trace_pair.proofs.Sure.{certain_table, legal_table, only_table}
use Rattle.trace_pair.proofs.index.PairIndex.pairs.Goals as goal

pub returns-clause-table : goal.returns-clause-table
returns-clause-table c = c.in_ok-table.ensures ∙ ap table_of (c.deref.ensures.value ∙ c.self.view_is)

pub returns-clause-certain : goal.returns-clause-certain
returns-clause-certain c =
    let kept = subst (λ (h : List Ops). IsKept h c.self.inside.following) c.self.view_is c.self.invariant in
    certain_table c.args.self.now _ kept.own (returns-clause-table c)

pub returns-clause-legal : goal.returns-clause-legal
returns-clause-legal c =
    let kept = subst (λ (h : List Ops). IsKept h c.self.inside.following) c.self.view_is c.self.invariant in
    legal_table c.args.self.now _ kept.own (returns-clause-table c)

pub returns-clause-only : goal.returns-clause-only
returns-clause-only c =
    let kept = subst (λ (h : List Ops). IsKept h c.self.inside.following) c.self.view_is c.self.invariant in
    only_table c.args.self.now _ kept.own (returns-clause-table c)
