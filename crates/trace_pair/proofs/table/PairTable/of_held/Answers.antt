use Rattle.std.proofs.Common.{◌≡◌, ◌∙◌, subst, sym, ap, List}
use Rattle.trace_pair.specs.Searched.{ArePairs}
use Rattle.trace_pair.specs.Table.{Table}
use Rattle.trace_pair.specs.declared.pair.Pair.{Pair}
use Rattle.trace_pair.proofs.Searched.{table_are}
use Rattle.trace_pair.proofs.table.PairTable.of_held.Goals as goal

pub places_near-requires : goal.places_near-requires
places_near-requires c =
    let e : c.deref.result.now ≡ c.in_ok-rows.rows.pairs = c.deref.ensures.value ∙ ap (λ (t : Table). t.pairs) c.rows.view_is in
    subst (λ (l : List Pair). ArePairs l) (sym e) (table_are c.args.held.now c.in_ok-rows.rows c.requires.own (c.in_ok-rows.ensures c.requires.followed))

pub of_rows-requires : goal.of_rows-requires
of_rows-requires c = table_are c.args.held.now c.in_ok-rows.rows c.requires.own (c.in_ok-rows.ensures c.requires.followed)

pub returns : goal.returns
returns c = c.of_rows.ensures ∙ c.in_ok-rows.ensures c.requires.followed
