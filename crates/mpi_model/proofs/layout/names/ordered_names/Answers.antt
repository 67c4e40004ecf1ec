use Rattle.std.proofs.Common.{arith, rules}
use Rattle.std.proofs.lemmas.List.Sorted.{answers_always}
use Rattle.mpi_model.specs.declared.layout.names.Name.{Name}
use Rattle.mpi_model.proofs.Names.{ordered_by_next}
use Rattle.mpi_model.proofs.layout.names.ordered_names.Goals as goal

pub returns-clause-order : goal.returns-clause-order
returns-clause-order c =
    let rises = c.in_ok-sort_by_key.ensures.sorted (λ (x : Name). (x.rank, x.stretch.number, x.stretch.first)) (answers_always _ _ _ (λ f a r g called. search rules)) in
    ordered_by_next c.sort_by_key.new.self.items (λ k d lt. rises k d (omega arith) lt)
