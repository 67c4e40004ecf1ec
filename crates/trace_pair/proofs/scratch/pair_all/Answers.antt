use Rattle.std.proofs.Common.{◌≡◌, ◌∙◌, List, subst, sym}
use Rattle.trace_ops.specs.Ops.{Ops, AreOwn}
use Rattle.trace_pair.specs.After.{comes_after}
use Rattle.trace_pair.specs.Table.{sends_of, receives_of, table_with}
use Rattle.trace_pair.proofs.Searched.{table_are}
use Rattle.trace_pair.proofs.Sure.{certain_table, legal_table, only_table}
use Rattle.trace_pair.proofs.scratch.pair_all.Goals as goal

pub batch_of-requires : goal.batch_of-requires
batch_of-requires c = subst (λ (os : List Ops). AreOwn 0 os) (sym c.new-reaches.ensures) c.requires.own

pub of_rows-requires : goal.of_rows-requires
of_rows-requires c =
    let rows = subst (λ (os : List Ops). c.in_ok-rows.rows ≡ table_with (comes_after os) (sends_of os) (receives_of os)) c.new-reaches.ensures
    (c.in_ok-rows.ensures (sends_of c.new-reaches.result) (receives_of c.new-reaches.result) c.in_ok-batch.ensures) in
    table_are c.args.ops.now _ c.requires.own rows

pub returns-clause-table : goal.returns-clause-table
returns-clause-table c =
    let rows = subst (λ (os : List Ops). c.in_ok-rows.rows ≡ table_with (comes_after os) (sends_of os) (receives_of os)) c.new-reaches.ensures
    (c.in_ok-rows.ensures (sends_of c.new-reaches.result) (receives_of c.new-reaches.result) c.in_ok-batch.ensures) in
    c.of_rows.ensures ∙ rows

pub returns-clause-certain : goal.returns-clause-certain
returns-clause-certain c = certain_table c.args.ops.now _ c.requires.own (returns-clause-table c)

pub returns-clause-legal : goal.returns-clause-legal
returns-clause-legal c = legal_table c.args.ops.now _ c.requires.own (returns-clause-table c)

pub returns-clause-only : goal.returns-clause-only
returns-clause-only c = only_table c.args.ops.now _ c.requires.own (returns-clause-table c)
