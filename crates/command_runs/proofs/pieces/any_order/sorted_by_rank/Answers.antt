use Rattle.std.proofs.Common.{◌≡◌, List, rules, subst}
use Rattle.std.specs.List.Sorted.{IsStableByKey}
use Rattle.std.specs.Ordering.{nat_cmp}
use Rattle.std.proofs.lemmas.List.Sorted.{IsNonDecreasingBy-from_sort_by_key, answers_always}
use Rattle.run_files.specs.Manifests.{PieceParts}
use Rattle.command_runs.proofs.pieces.any_order.sorted_by_rank.Goals as goal

pub returns-clause-order : goal.returns-clause-order
returns-clause-order c = IsNonDecreasingBy-from_sort_by_key (λ p. p.rank) _ c.in_ok-sort_by_key.ensures.sorted (λ a r q k. search rules)

pub returns-clause-stable : goal.returns-clause-stable
returns-clause-stable c =
    let copied : c.in_ok-sorted.sorted.items ≡ c.args.pieces.now = c.in_ok-sorted.ensures.items_if_clones_equal (λ x y h. search rules) in
    subst (λ (ps : List PieceParts). IsStableByKey (λ p. p.rank) nat_cmp ps c.sort_by_key.new.self.items) copied (c.sort_by_key.ensures.stable (λ p. p.rank) (answers_always _ _ _ (λ f a r g h. search rules)))
