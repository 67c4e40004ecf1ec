use Rattle.std.proofs.Common.{◌∙◌, List, subst, sym}
use Rattle.trace_ops.specs.RankOps.{all_ops}
use Rattle.trace_pair.specs.Searched.{ArePairs}
use Rattle.trace_pair.specs.declared.pair.Pair.{Pair}
use Rattle.call_table.proofs.partners.Partners.of_answer.Goals as goal

-- the pairs of an answer are those of the table of all ranks' operations
pub of_pairs-requires : goal.of_pairs-requires
of_pairs-requires c =
    let layout = c.requires.0 in
    let view = c.requires.1 in
    subst (λ (l : List Pair). ArePairs l) (sym (c.pairs.ensures ∙ c.requires.2.pairs))
    (c.pairs_are_found.ensures.apart (all_ops layout view) (c.ops_laws.ensures.all layout view))
